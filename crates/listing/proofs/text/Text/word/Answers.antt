use Rattle.std.proofs.Common.{arith}
use Rattle.std.proofs.lemmas.List.{take_more}
use Rattle.listing.proofs.Writes.{puts_more}
use Rattle.listing.proofs.text.Text.word.Goals as goal

pub loop-byte-preserved : goal.loop-byte-preserved
loop-byte-preserved c =
    rw (take_more c.as_bytes-byte-items.result.now c.loop-byte.byte-index 0 (omega arith)) (puts_more c.loop-byte.invariant c.byte.ensures)
