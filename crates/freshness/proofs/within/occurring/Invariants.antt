use Rattle.terms.specs.Listed.{listed}
use Rattle.freshness.proofs.Passing.{Passed}
use Rattle.freshness.proofs.within.occurring.Given as goal

abbrev pub invariant-loop-term : goal.invariant-loop-term
invariant-loop-term l = Passed (listed l.terms) l.marks l.occurring l.term
