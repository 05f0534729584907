use Rattle.deduction.proofs.Derive.{derivability_is_transitive_lem}
use Rattle.deduction.proofs.derivability_is_transitive.Goals as goal

pub returns : goal.returns
returns c = derivability_is_transitive_lem
