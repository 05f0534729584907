use Rattle.std.proofs.Common.{take}
use Rattle.freshness.specs.Given.{given_in}
use Rattle.freshness.specs.Marks.{Marked}
use Rattle.freshness.proofs.given.mark_given.Given as goal

abbrev pub invariant-loop-line : goal.invariant-loop-line
invariant-loop-line l = Marked (λ t. given_in t (take l.line-index l.line-items)) l.initial.marks l.marks
