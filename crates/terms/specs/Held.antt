-- What can be composed from held numbers, and what is missing.
use Rattle.std.specs.Prelude.{◌≡◌, ℕ, zero, suc, ◌<◌, Bool, false, cond, ◌⊎◌, List, [], ◌∷◌, length, Some, None, Decides, Option, slice_index_or}
use Rattle.deduction.specs.Term.{Term, name, built, mate, In}
use Rattle.deduction.specs.Compose.{Composable}
use Rattle.terms.specs.declared.node.TermNode.{TermNode}
use Rattle.terms.specs.Tree.{tree}

-- the trees of the held numbers below n
abbrev pub held_below : List TermNode → List Bool → ℕ → List Term
held_below ts held zero = []
held_below ts held (suc n) = cond (slice_index_or held n false) (tree ts n ∷ held_below ts held n) (held_below ts held n)

-- the trees of the held numbers
unfoldable pub held_terms : List TermNode → List Bool → List Term
held_terms ts held = held_below ts held (length ts)

-- the number's tree is composable from the trees of the held numbers
abbrev pub ComposableId : List TermNode → List Bool → ℕ → Type 0
ComposableId ts held i = Composable (held_terms ts held) (tree ts i)

-- for each number below n whether its tree is composable
abbrev pub JudgedBelow : List TermNode → List Bool → List Bool → ℕ → Type 0
JudgedBelow ts held judged n = (i : ℕ) → i < n → Decides (slice_index_or judged i false) (ComposableId ts held i)

-- the first name or mate for want of which the term is not composable: the left part's if that is not composable, else the right part's
abbrev pub FirstMissing : List Term → Term → Term → Type 0
FirstMissing held (name k i) m = (In (name k i) held → ⊥) × (m ≡ name k i)
FirstMissing held (built f a b) m =
    (In (built f a b) held → ⊥) × (FirstMissing held a m ⊎ (Composable held a × FirstMissing held b m))
FirstMissing held (mate k) m = (In (mate k) held → ⊥) × (m ≡ mate k)

-- looking for what is missing: none exactly for what is no term or is composable
abbrev pub Misses : List TermNode → List Bool → ℕ → Option ℕ → Type 0
Misses ts held i None = i < length ts → ComposableId ts held i
Misses ts held i (Some m) = (i < length ts) × (m < length ts) × FirstMissing (held_terms ts held) (tree ts i) (tree ts m)

-- a name or a mate
abbrev pub Undivided : Term → Type 0
Undivided (name k i) = Unit {0}
Undivided (built f a b) = ⊥
Undivided (mate k) = Unit {0}

-- the term stands in the other, at some depth
abbrev pub Within : Term → Term → Type 0
Within t (name k i) = t ≡ name k i
Within t (built f a b) = (t ≡ built f a b) ⊎ (Within t a ⊎ Within t b)
Within t (mate k) = (t ≡ mate k) ⊎ Within t k

-- what is missing is a name or a mate that stands in the term and is not held
abbrev pub Lacking : List TermNode → List Bool → ℕ → Option ℕ → Type 0
Lacking ts held i None = Unit {0}
Lacking ts held i (Some m) = Undivided (tree ts m) × Within (tree ts m) (tree ts i) × (In (tree ts m) (held_terms ts held) → ⊥)
