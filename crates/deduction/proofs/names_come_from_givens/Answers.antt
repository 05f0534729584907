use Rattle.deduction.proofs.Derive.{names_come_from_givens_lem}
use Rattle.deduction.proofs.names_come_from_givens.Goals as goal

pub returns : goal.returns
returns c = names_come_from_givens_lem
