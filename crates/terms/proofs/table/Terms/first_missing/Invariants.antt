use Rattle.std.proofs.Common.{◌<◌, length}
use Rattle.deduction.specs.Term.{Term}
use Rattle.terms.specs.Held.{held_terms, ComposableId, FirstMissing}
use Rattle.terms.specs.Tree.{tree}
use Rattle.terms.specs.Listed.{listed}
use Rattle.terms.proofs.table.Terms.first_missing.Given as goal

-- the term come to is not composable, and what is missing first for it is missing first for the whole
abbrev pub invariant-loop-lacking : goal.invariant-loop-lacking
invariant-loop-lacking g l =
    (l.lacking < length (listed l.self))
    × (ComposableId (listed l.self) l.held l.lacking → ⊥)
    × ((m : Term) → FirstMissing (held_terms (listed l.self) l.held) (tree (listed l.self) l.lacking) m
    → FirstMissing (held_terms (listed l.self) l.held) (tree (listed l.self) l.id) m)

abbrev pub decreases-loop-lacking : goal.decreases-loop-lacking
decreases-loop-lacking g l = l.lacking
