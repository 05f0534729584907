-- Members of lists by number, in a front part and from a number on.
use Rattle.std.proofs.Common.{◌≡◌, ℕ, zero, suc, ◌+◌, ◌<◌, List, [], ◌∷◌, take, drop, Some, None, refl, ap, ◌∙◌, arith}
use Rattle.rules.specs.State.{nth}
use Rattle.rules.proofs.Nth.{nth_at}
use Rattle.terms.specs.declared.node.Kind.TheVariants.{Party}
use Rattle.terms.specs.declared.node.TermNode.{TermNode}
use Rattle.terms.specs.declared.node.TermNode.TheVariants.{Name}
use Rattle.terms.specs.Outcome.{Has}

module _ {A : Type 0} where
  -- the members from a number on begin with the member of that number
  pub drop_nth : (xs : List A) (k : ℕ) (x : A) → nth xs k ≡ Some x → drop k xs ≡ x ∷ drop (suc k) xs
  drop_nth [] k x e = let z : ◌≡◌ {A = ℕ} 0 1 = cc in absurd (omega arith)
  drop_nth (y ∷ xs) zero x e = let p : y ≡ x = cc in ap (λ z. z ∷ xs) p
  drop_nth (y ∷ xs) (suc k) x e = drop_nth xs k x e

  pub drop_none : (xs : List A) (k : ℕ) → nth xs k ≡ None → drop k xs ≡ []
  drop_none [] zero e = refl
  drop_none [] (suc k) e = refl
  drop_none (y ∷ xs) zero e = let z : ◌≡◌ {A = ℕ} 0 1 = cc in absurd (omega arith)
  drop_none (y ∷ xs) (suc k) e = drop_none xs k e

  -- a front part has the members of the lower numbers, and no others
  pub nth_take : (n : ℕ) (xs : List A) (k : ℕ) (x : A) → k < n → nth xs k ≡ Some x → nth (take n xs) k ≡ Some x
  nth_take zero xs k x l e = absurd (omega arith)
  nth_take (suc n) [] k x l e = e
  nth_take (suc n) (y ∷ xs) zero x l e = e
  nth_take (suc n) (y ∷ xs) (suc k) x l e = nth_take n xs k x (omega arith) e

  pub nth_take_back : (n : ℕ) (xs : List A) (k : ℕ) (x : A) → nth (take n xs) k ≡ Some x → nth xs k ≡ Some x
  nth_take_back zero xs k x e = let z : ◌≡◌ {A = ℕ} 0 1 = cc in absurd (omega arith)
  nth_take_back (suc n) [] k x e = e
  nth_take_back (suc n) (y ∷ xs) zero x e = e
  nth_take_back (suc n) (y ∷ xs) (suc k) x e = nth_take_back n xs k x e

  pub nth_take_none : (n : ℕ) (xs : List A) (k : ℕ) → nth xs k ≡ None → nth (take n xs) k ≡ None
  nth_take_none zero xs k e = refl
  nth_take_none (suc n) [] k e = refl
  nth_take_none (suc n) (y ∷ xs) zero e = let z : ◌≡◌ {A = ℕ} 0 1 = cc in absurd (omega arith)
  nth_take_none (suc n) (y ∷ xs) (suc k) e = nth_take_none n xs k e

  pub nth_drop : (xs : List A) (n k : ℕ) → nth (drop n xs) k ≡ nth xs (n + k)
  nth_drop xs zero k = let z : 0 + k ≡ k = omega arith in rw z refl
  nth_drop [] (suc n) k = refl
  nth_drop (y ∷ xs) (suc n) k = let z : suc n + k ≡ suc (n + k) = omega arith in rw z (nth_drop xs n k)

-- a record is the member of its number
pub has_nth : (ts : List TermNode) (n : ℕ) (r : TermNode) → Has ts n r → nth ts n ≡ Some r
has_nth ts n r h = nth_at ts n (Name Party 0) h.0 ∙ ap Some h.1
