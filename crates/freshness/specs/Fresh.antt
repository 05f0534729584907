-- Which names are fresh in a message.
use Rattle.std.specs.Prelude.{◌≡◌, ℕ, ◌<◌, ◌≤◌, Bool, true, false, not, ◌&&◌, ◌||◌, List, [], ◌∷◌, length, slice_index_or}
use Rattle.deduction.specs.Term.{Kind as TreeKind, Term, name, built, mate}
use Rattle.rules.specs.State.{occurs, fresh_kind}
use Rattle.terms.specs.declared.node.Kind.{Kind}
use Rattle.terms.specs.declared.node.Kind.TheVariants.{Party, Number, Shared, Public, Table, Function}
use Rattle.terms.specs.declared.node.TermNode.{TermNode}
use Rattle.terms.specs.declared.node.TermNode.TheVariants.{Name, Built, Mate}
use Rattle.terms.specs.Node.{node_at}
use Rattle.terms.specs.Tree.{tree}
use Rattle.terms.specs.Held.{held_terms}

-- the name of this kind and identity occurs in some term of the list
abbrev pub occurs_in : TreeKind → ℕ → List Term → Bool
occurs_in k i [] = false
occurs_in k i (t ∷ ts) = occurs k i t || occurs_in k i ts

-- the term is a name of a kind that can be fresh, and it occurs in the message and in nothing shown
abbrev pub fresh_by : List Term → Term → Term → Bool
fresh_by shown m (name k i) = fresh_kind k && (occurs k i m && not (occurs_in k i shown))
fresh_by shown m (built f a b) = false
fresh_by shown m (mate k) = false

-- names of these kinds can be fresh
abbrev pub can_kind_be_fresh : Kind → Bool
can_kind_be_fresh Party = false
can_kind_be_fresh Number = true
can_kind_be_fresh Shared = true
can_kind_be_fresh Public = true
can_kind_be_fresh Table = false
can_kind_be_fresh Function = false

-- a name of such a kind
abbrev pub can_be_fresh : TermNode → Bool
can_be_fresh (Name k i) = can_kind_be_fresh k
can_be_fresh (Built f a b) = false
can_be_fresh (Mate a) = false

-- for each number whether it is a name of such a kind that is sent and not used
pub record FreshAmong (ts : List TermNode) (sent used r : List Bool) : Type 0 where
  pub fresh : (i : ℕ) → i < length ts → slice_index_or r i false ≡ (can_be_fresh (node_at ts i) && (slice_index_or sent i false && not (slice_index_or used i false)))
  pub past : (i : ℕ) → length ts ≤ i → slice_index_or r i false ≡ false
  pub size : length r ≡ 512

-- for each number whether it is fresh in the message; in what is no term nothing is fresh
pub record FreshNames (ts : List TermNode) (shown : List Bool) (m : ℕ) (r : List Bool) : Type 0 where
  pub fresh : m < length ts → (i : ℕ) → i < length ts → slice_index_or r i false ≡ fresh_by (held_terms ts shown) (tree ts m) (tree ts i)
  pub unknown : length ts ≤ m → (i : ℕ) → slice_index_or r i false ≡ false
  pub past : (i : ℕ) → length ts ≤ i → slice_index_or r i false ≡ false
  pub size : length r ≡ 512
