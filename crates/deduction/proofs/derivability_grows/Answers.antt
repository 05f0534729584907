use Rattle.deduction.proofs.Derive.{derivability_grows_lem}
use Rattle.deduction.proofs.derivability_grows.Goals as goal

pub returns : goal.returns
returns c = derivability_grows_lem
