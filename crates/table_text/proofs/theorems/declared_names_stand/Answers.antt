use Rattle.table_text.proofs.Standing.{declared_stand}
use Rattle.table_text.proofs.theorems.declared_names_stand.Goals as goal

pub returns : goal.returns
returns c = declared_stand
