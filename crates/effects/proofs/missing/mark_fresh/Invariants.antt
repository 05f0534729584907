use Rattle.std.proofs.Common.{false, ◌||◌, get_or, length}
use Rattle.terms.specs.Listed.{listed}
use Rattle.terms.specs.Node.{node_at}
use Rattle.terms.proofs.Marked.{MarkedTo}
use Rattle.effects.specs.Sending.{is_mate_of}
use Rattle.effects.proofs.missing.mark_fresh.Given as goal

-- the numbers below are done, the others are as before
abbrev pub invariant-loop-term : goal.invariant-loop-term
invariant-loop-term l = MarkedTo 512 (length l.initial.marks) (λ t. get_or l.fresh t false || is_mate_of l.fresh (node_at (listed l.terms) t)) l.initial.marks l.marks l.term
