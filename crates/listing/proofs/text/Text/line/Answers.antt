use Rattle.listing.specs.Listing.{line_of}
use Rattle.listing.proofs.Writes.{puts_more}
use Rattle.listing.proofs.text.Text.line.Goals as goal

pub returns : goal.returns
unfolding line_of
returns c =
    puts_more (puts_more (puts_more (puts_more (puts_more c.number.ensures c.operand.ensures) c.space.ensures) (rw c.word.ensures at c.word-2.ensures)) c.operands.ensures) c.line_end.ensures
