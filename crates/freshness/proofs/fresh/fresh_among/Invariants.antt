use Rattle.std.proofs.Common.{[], false, not, ◌&&◌, get_or}
use Rattle.terms.specs.Listed.{listed}
use Rattle.terms.specs.Node.{node_at}
use Rattle.terms.proofs.Marked.{MarkedTo}
use Rattle.freshness.specs.Fresh.{can_be_fresh}
use Rattle.freshness.proofs.fresh.fresh_among.Given as goal

-- the lower numbers are judged, the others are not yet
abbrev pub invariant-loop-term : goal.invariant-loop-term
invariant-loop-term l =
    MarkedTo 512 512 (λ i. can_be_fresh (node_at (listed l.terms) i) && (get_or l.sent i false && not (get_or l.used i false))) [] l.fresh l.term
