use Rattle.std.proofs.Common.{take}
use Rattle.listing.specs.Text.{Puts}
use Rattle.listing.proofs.text.Text.word.Given as goal

-- the bytes so far are written
abbrev pub invariant-loop-byte : goal.invariant-loop-byte
invariant-loop-byte l = Puts l.initial.self (take l.byte-index l.byte-items) l.self
