-- How far scripts are done after one more step, and by steps of other parties.
use Rattle.std.proofs.Common.{◌≡◌, ℕ, suc, Bool, true, false, cond, eqb, List, [], ◌∷◌, ◌++◌, Some, refl, ◌∙◌}
use Rattle.std.proofs.lemmas.Bool.{eqb-true, eqb-false}
use Rattle.rules.specs.State.{Step, nth}
use Rattle.parts.specs.Parts.{reached}

-- how far a party is done after a step; n if it takes no part
abbrev pub part_end : Step → ℕ → ℕ → ℕ
part_end x n p = cond (eqb x.sender p) x.sent (cond (eqb x.receiver p) x.received n)

-- one more step
pub reached_push : (xs : List Step) (y : Step) (n p : ℕ) → reached (xs ++ (y ∷ [])) n p ≡ part_end y (reached xs n p) p
reached_push [] y n p = refl
reached_push (x ∷ xs) y n p = reached_push xs y (part_end x n p) p

-- the choice between sender, receiver and neither
module _ (a b : ℕ) (i j n : ℕ) where
  -- what holds of the three ways holds of the choice
  pub by_cases : (Q : ℕ → Type 0) (p : ℕ) → (a ≡ p → Q i) → ((a ≡ p → ⊥) → b ≡ p → Q j) → ((a ≡ p → ⊥) → (b ≡ p → ⊥) → Q n)
      → Q (cond (eqb a p) i (cond (eqb b p) j n))
  by_cases Q p f g h = go (eqb a p) (eqb b p) refl refl
    where
      go : (x y : Bool) → eqb a p ≡ x → eqb b p ≡ y → Q (cond x i (cond y j n))
      go true y e d = f (eqb-true a p e)
      go false true e d = g (eqb-false a p e) (eqb-true b p d)
      go false false e d = h (eqb-false a p e) (eqb-false b p d)

-- steps in which the party neither sends nor receives
abbrev pub Apart : ℕ → Step → Type 0
Apart p x = (x.sender ≡ p → ⊥) × (x.receiver ≡ p → ⊥)

abbrev pub AllApart : List Step → ℕ → Type 0
AllApart xs p = (l : ℕ) (x : Step) → nth xs l ≡ Some x → Apart p x

pub reached_apart : (xs : List Step) (n p : ℕ) → AllApart xs p → reached xs n p ≡ n
reached_apart [] n p h = refl
reached_apart (x ∷ xs) n p h =
    let w = h 0 x refl in
    let e : part_end x n p ≡ n =
    by_cases x.sender x.receiver x.sent x.received n (λ m. m ≡ n) p (λ e. absurd (w.0 e)) (λ q e. absurd (w.1 e)) (λ q r. refl) in
    reached_apart xs (part_end x n p) p (λ l y f. h (suc l) y f) ∙ e
