-- The granted steps of a history, and that the state has them in order.
use Rattle.std.specs.Prelude.{◌≡◌, ℕ, List, [], ◌∷◌, ◌++◌, length, Some}
use Rattle.rules.specs.State.{Step, State, Told, named, formed, mated, known, stepped, asked, refused, nth}
use Rattle.rules.specs.History.{History, Stands}

-- one more call: a granted step adds its sender, its receiver and the number of its message
abbrev pub grants : List (ℕ × ℕ × ℕ) → Told → List (ℕ × ℕ × ℕ)
grants gs (named k n) = gs
grants gs (formed f a b n) = gs
grants gs (mated a n) = gs
grants gs (known p n) = gs
grants gs (stepped a b n l) = gs ++ ((a, b, n) ∷ [])
grants gs (asked p n b) = gs
grants gs (refused c r) = gs

-- the granted steps, the oldest first
abbrev pub granted : History → List (ℕ × ℕ × ℕ)
granted [] = []
granted (d ∷ past) = grants (granted past) d

-- a granted step is answered with this place
abbrev pub PlacedAt : ℕ → Told → Type 0
PlacedAt i (named k n) = Unit {0}
PlacedAt i (formed f a b n) = Unit {0}
PlacedAt i (mated a n) = Unit {0}
PlacedAt i (known p n) = Unit {0}
PlacedAt i (stepped a b n l) = l ≡ i
PlacedAt i (asked p n b) = Unit {0}
PlacedAt i (refused c r) = Unit {0}

-- every granted step was answered with its place among them
abbrev pub InPlaces : History → Type 0
InPlaces [] = Unit {0}
InPlaces (d ∷ past) = InPlaces past × PlacedAt (length (granted past)) d

-- the state's steps are the granted ones in order, with the terms that the messages' numbers stand for
pub record StepsGranted (past : History) (st : State) : Type 0 where
  pub count : length (granted past) ≡ length st.steps
  pub agree : (l : ℕ) (x : Step) → nth st.steps l ≡ Some x
      → (n : ℕ) × (nth (granted past) l ≡ Some (x.sender, x.receiver, n)) × Stands past n x.message
  pub places : InPlaces past
