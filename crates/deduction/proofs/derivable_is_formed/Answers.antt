use Rattle.deduction.proofs.Derive.{derivable_is_formed_lem}
use Rattle.deduction.proofs.derivable_is_formed.Goals as goal

pub returns : goal.returns
returns c = derivable_is_formed_lem
