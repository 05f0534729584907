use Rattle.table_text.proofs.Determined.{reads_once}
use Rattle.table_text.proofs.theorems.reads_are_determined.Goals as goal

pub returns : goal.returns
returns c = reads_once
