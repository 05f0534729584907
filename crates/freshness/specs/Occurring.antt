-- Which numbers stand within marked terms.
use Rattle.std.specs.Prelude.{◌≡◌, ℕ, ◌<◌, ◌≤◌, Bool, true, false, ◌||◌, List, length, Decides, ◌==◌, slice_index_or}
use Rattle.terms.specs.declared.node.TermNode.{TermNode}
use Rattle.terms.specs.declared.node.TermNode.TheVariants.{Name, Built, Mate}
use Rattle.terms.specs.Tree.{tree}
use Rattle.terms.specs.Held.{Within}

-- the number is that of a part of the record
abbrev pub is_part : ℕ → TermNode → Bool
is_part t (Name k i) = false
is_part t (Built f a b) = a == t || b == t
is_part t (Mate a) = a == t

-- the number's tree stands within the tree of a marked number
abbrev pub StandsIn : List TermNode → List Bool → ℕ → Type 0
StandsIn ts marks i = (t : ℕ) × (t < length ts) × (slice_index_or marks t false ≡ true) × Within (tree ts i) (tree ts t)

-- for each number whether it stands within a marked one; past the last number there is nothing
pub record Occurring (ts : List TermNode) (marks r : List Bool) : Type 0 where
  pub stands : (i : ℕ) → i < length ts → Decides (slice_index_or r i false) (StandsIn ts marks i)
  pub past : (i : ℕ) → length ts ≤ i → slice_index_or r i false ≡ false
  pub size : length r ≡ 512
