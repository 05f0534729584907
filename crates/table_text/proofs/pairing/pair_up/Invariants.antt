use Rattle.std.proofs.Common.{◌≡◌, ℕ, ◌∷◌, ◌++◌, List, length}
use Rattle.bounded.specs.Items.{items}
use Rattle.protocol.specs.View.{view_of}
use Rattle.table_text.proofs.Paired.{Paired}
use Rattle.table_text.proofs.pairing.pair_up.Given as goal

abbrev pub invariant-loop-parts : goal.invariant-loop-parts
invariant-loop-parts l =
    (front : List ℕ) (a : ℕ) (bs : List ℕ) → items l.fn.parts ≡ front ++ a ∷ bs → length front ≡ l.from
    → Paired front (a ∷ bs) (view_of l.fn.protocol) (items l.parts) l.last (view_of l.protocol)

abbrev pub decreases-loop-parts : goal.decreases-loop-parts
decreases-loop-parts l = length (items l.parts)
