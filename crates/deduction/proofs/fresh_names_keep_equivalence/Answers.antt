use Rattle.deduction.proofs.Fresh.{fresh_names_keep_equivalence_lem}
use Rattle.deduction.proofs.fresh_names_keep_equivalence.Goals as goal

pub returns : goal.returns
returns c = fresh_names_keep_equivalence_lem
