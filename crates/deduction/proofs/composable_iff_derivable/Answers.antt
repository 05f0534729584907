use Rattle.deduction.proofs.Compose.{composable_iff_derivable_lem}
use Rattle.deduction.proofs.composable_iff_derivable.Goals as goal

pub returns : goal.returns
returns c = composable_iff_derivable_lem
