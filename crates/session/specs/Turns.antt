-- Which step of a protocol is a party's next one.
use Rattle.std.specs.Prelude.{◌≡◌, ℕ, ◌+◌, ◌<◌, ◌≤◌, Bool, true, false, cond, ◌||◌, List, [], ◌∷◌, drop, Some, None, Option, ◌==◌}
use Rattle.rules.specs.State.{nth}
use Rattle.protocol.specs.declared.step.Step.{Step}

-- the party sends or receives in the step
abbrev pub takes_part : Step → ℕ → Bool
takes_part x p = x.sender == p || x.receiver == p

-- the first of these steps in which the party sends or receives, with its number, the first of them having the number k
abbrev pub first_of : List Step → ℕ → ℕ → Option (ℕ × Step)
first_of [] k p = None
first_of (x ∷ xs) k p = cond (takes_part x p) (Some (k, x)) (first_of xs (k + 1) p)

-- the step of the lowest number from n on in which the party sends or receives
abbrev pub next_of : List Step → ℕ → ℕ → Option (ℕ × Step)
next_of xs n p = first_of (drop n xs) n p

-- The step x of number k is the party's next one from n on: the party sends or receives in it, and in none from n on before it.
pub record IsNext (xs : List Step) (n p k : ℕ) (x : Step) : Type 0 where
  pub later : n ≤ k
  pub there : nth xs k ≡ Some x
  pub part : takes_part x p ≡ true
  pub lowest : (j : ℕ) (y : Step) → n ≤ j → j < k → nth xs j ≡ Some y → takes_part y p ≡ false

-- the party sends or receives in no step from n on
abbrev pub NoneLeft : List Step → ℕ → ℕ → Type 0
NoneLeft xs n p = (j : ℕ) (y : Step) → n ≤ j → nth xs j ≡ Some y → takes_part y p ≡ false

-- the step that is found is the next one, and where none is found none is left
abbrev pub Next : List Step → ℕ → ℕ → Option (ℕ × Step) → Type 0
Next xs n p None = NoneLeft xs n p
Next xs n p (Some x) = IsNext xs n p x.0 x.1
