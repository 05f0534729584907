use Rattle.std.proofs.Common.{arith}
use Rattle.listing.proofs.Writes.{puts_digit, puts_next_digit}
use Rattle.listing.proofs.text.Text.+number.Goals as goal
use Rattle.listing.proofs.text.Text.+number.Goals.{then-number-ge10, else-number-ge10}

pub returns : goal.returns
returns t c =
    elim c.if-number-ge10.branch [
      | then-number-ge10 w ↦ puts_next_digit c.args.number (omega arith) (omega arith) w.number.ensures w.self-is c.byte.ensures
      | else-number-ge10 w ↦ puts_digit c.args.number (omega arith) w.self-is c.byte.ensures
    ]
