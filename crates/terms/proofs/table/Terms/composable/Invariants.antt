use Rattle.std.proofs.Common.{◌≡◌, ℕ, ◌≤◌, false, length, get_or}
use Rattle.terms.specs.Held.{JudgedBelow}
use Rattle.terms.specs.Listed.{listed}
use Rattle.terms.proofs.table.Terms.composable.Given as goal

-- the lower numbers are judged, the others are not yet
abbrev pub invariant-loop-id : goal.invariant-loop-id
invariant-loop-id g l =
    JudgedBelow (listed l.self) l.held l.judged l.id
    × ((i : ℕ) → l.id ≤ i → get_or l.judged i false ≡ false)
    × (length l.judged ≡ g.row.N)
