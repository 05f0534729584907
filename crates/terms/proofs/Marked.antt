-- Marking, one number after the other, those that pass a test.
use Rattle.std.proofs.Common.{◌≡◌, ℕ, ◌+◌, ◌<◌, ◌≤◌, Bool, true, false, ◌||◌, eqb, ◌⊎◌, List, length, get_or, sym, ap, ◌∙◌, inl, inr, arith}
use Rattle.std.proofs.Math.Bool.{or-false}
use Rattle.std.proofs.lemmas.Bool.{cases_eq, eq-eqb, ne_eqb}

-- below n the marks of xs0 and those that f adds, from n on those of xs0
pub record MarkedTo (size long : ℕ) (f : ℕ → Bool) (xs0 xs : List Bool) (n : ℕ) : Type 0 where
  pub below : (t : ℕ) → t < n → t < size → get_or xs t false ≡ (get_or xs0 t false || f t)
  pub above : (t : ℕ) → n ≤ t → t < size → get_or xs t false ≡ get_or xs0 t false
  pub kept : length xs ≡ long

module _ (size long : ℕ) (f : ℕ → Bool) (xs0 xs : List Bool) (n : ℕ) (so_far : MarkedTo size long f xs0 xs n) where
  -- one number more, which passes
  pub marked_in : f n ≡ true → (xs' : List Bool) → ((t : ℕ) → t < size → get_or xs' t false ≡ (get_or xs t false || eqb n t)) → length xs' ≡ length xs → MarkedTo size long f xs0 xs' (n + 1)
  marked_in e xs' at same = record {
    below = λ t h l. go t h l (cases_eq n t);
    above = λ t h l. at t l ∙ ap (λ v. get_or xs t false || v) (ne_eqb n t (λ q. omega arith)) ∙ or-false (get_or xs t false) ∙ so_far.above t (omega arith) l;
    kept = same ∙ so_far.kept;
  }
    where
      go : (t : ℕ) → t < n + 1 → t < size → (n ≡ t) ⊎ (n ≡ t → ⊥) → get_or xs' t false ≡ (get_or xs0 t false || f t)
      go t h l (inl q) = at t l ∙ ap (λ v. v || eqb n t) (so_far.above t (omega arith) l) ∙ ap (λ v. get_or xs0 t false || v) (eq-eqb n t q ∙ sym e ∙ ap f q)
      go t h l (inr ne) = at t l ∙ ap (λ v. get_or xs t false || v) (ne_eqb n t ne) ∙ or-false (get_or xs t false) ∙ so_far.below t (omega arith) l

  -- one number more, which does not
  pub marked_out : f n ≡ false → MarkedTo size long f xs0 xs (n + 1)
  marked_out e = record {
    below = λ t h l. go t h l (cases_eq n t);
    above = λ t h l. so_far.above t (omega arith) l;
    kept = so_far.kept;
  }
    where
      go : (t : ℕ) → t < n + 1 → t < size → (n ≡ t) ⊎ (n ≡ t → ⊥) → get_or xs t false ≡ (get_or xs0 t false || f t)
      go t h l (inl q) = so_far.above t (omega arith) l ∙ sym (or-false (get_or xs0 t false)) ∙ ap (λ v. get_or xs0 t false || v) (sym e ∙ ap f q)
      go t h l (inr ne) = so_far.below t (omega arith) l
