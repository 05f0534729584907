use Rattle.std.proofs.Common.{take}
use Rattle.listing.specs.Listing.{listing_of}
use Rattle.listing.specs.Text.{Puts}
use Rattle.listing.proofs.text.Text.lines.Given as goal

-- the lines so far are written
abbrev pub invariant-loop-number : goal.invariant-loop-number
invariant-loop-number l = Puts l.initial.self (listing_of l.agent (take l.number l.lines)) l.self
