use Rattle.deduction.proofs.Derive.{ways_keep_derivable_lem}
use Rattle.deduction.proofs.ways_keep_derivable.Goals as goal

pub returns : goal.returns
returns c = ways_keep_derivable_lem
