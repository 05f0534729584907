use Rattle.table_text.proofs.Written.{made_stands}
use Rattle.table_text.proofs.theorems.made_terms_are_those_written.Goals as goal

pub returns : goal.returns
returns c = made_stands
