use Rattle.listing.proofs.Writes.{puts_more}
use Rattle.listing.proofs.text.Text.operands.Goals as goal

pub returns-in-Some : goal.returns-in-Some
returns-in-Some c = rw (← c.operands-first.ensures, c.in-Some.is) (puts_more c.operand.ensures c.operand-in-Some.ensures)
