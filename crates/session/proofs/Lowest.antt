-- A party's next step is the one of the lowest number.
use Rattle.std.proofs.Common.{◌≡◌, ℕ, zero, suc, ◌+◌, ◌-◌, ◌<◌, ◌≤◌, Bool, true, false, cond, ◌⊎◌, List, [], ◌∷◌, drop, Some, None, Option, MatchOption, length, sym, refl, ap, ◌∙◌, subst, inl, inr, arith}
use Rattle.std.proofs.lemmas.Bool.{cases_order}
use Rattle.rules.specs.State.{nth}
use Rattle.rules.proofs.Nth.{some_is, nth_below}
use Rattle.acting.proofs.Lines.{nth_drop}
use Rattle.protocol.specs.declared.step.Step.{Step}
use Rattle.session.specs.Turns.{takes_part, first_of, next_of, IsNext, Next}

-- what is found among steps of which the first has the number n
First : List Step → ℕ → ℕ → Option (ℕ × Step) → Type 0
First ys n p None = (j : ℕ) (y : Step) → nth ys j ≡ Some y → takes_part y p ≡ false
First ys n p (Some x) = (d : ℕ) × (x.0 ≡ n + d) × (nth ys d ≡ Some x.1) × (takes_part x.1 p ≡ true) × ((j : ℕ) (y : Step) → j < d → nth ys j ≡ Some y → takes_part y p ≡ false)

first_is : (ys : List Step) (n p : ℕ) → First ys n p (first_of ys n p)
unfolding First
first_is [] n p = λ j y e. let z : ◌≡◌ {A = ℕ} 0 1 = cc in absurd (omega arith)
first_is (y ∷ ys) n p = go (takes_part y p) refl (first_of ys (n + 1) p) (first_is ys (n + 1) p)
  where
    go : (b : Bool) → takes_part y p ≡ b → (o : Option (ℕ × Step)) → First ys (n + 1) p o → First (y ∷ ys) n p (cond b (Some (n, y)) o)
    go true e o f = (0, omega arith, refl, e, λ j z l q. absurd (omega arith))
    go false e None f = none
      where
        none : (j : ℕ) (z : Step) → nth (y ∷ ys) j ≡ Some z → takes_part z p ≡ false
        none zero z q = subst (λ u. takes_part u p ≡ false) (some_is q) e
        none (suc j) z q = f j z q
    go false e (Some x) f = (suc f.0, (let g = f.1 in omega arith), f.2, f.3, below)
      where
        below : (j : ℕ) (z : Step) → j < suc f.0 → nth (y ∷ ys) j ≡ Some z → takes_part z p ≡ false
        below zero z l q = subst (λ u. takes_part u p ≡ false) (some_is q) e
        below (suc j) z l q = f.4 j z (omega arith) q

both : (b : Bool) → b ≡ true → b ≡ false → ⊥
both b t f = cc

module _ (xs : List Step) (n p : ℕ) where
  in_drop : (j : ℕ) (y : Step) → n ≤ j → nth xs j ≡ Some y → nth (drop n xs) (j - n) ≡ Some y
  in_drop j y l e = let q : n + (j - n) ≡ j = omega arith in nth_drop xs n (j - n) ∙ ap (nth xs) q ∙ e

  found : (o : Option (ℕ × Step)) → First (drop n xs) n p o → Next xs n p o
  unfolding First
  found None f = λ j y l e. f (j - n) y (in_drop j y l e)
  found (Some x) f = record {
    later = let g = f.1 in omega arith;
    there = ap (nth xs) f.1 ∙ sym (nth_drop xs n f.0) ∙ f.2;
    part = f.3;
    lowest = λ j y l k e. let g = f.1 in f.4 (j - n) y (omega arith) (in_drop j y l e);
  }

  -- what is found is the next step, and none where none is left
  pub next_is : (o : Option (ℕ × Step)) → o ≡ next_of xs n p → Next xs n p o
  next_is o e = subst (Next xs n p) (sym e) (found (next_of xs n p) (first_is (drop n xs) n p))

  -- there is no other next step
  pub next_at : (k : ℕ) (x : Step) → IsNext xs n p k x → next_of xs n p ≡ Some (k, x)
  next_at k x w = go (next_of xs n p) refl
    where
      same : (k' : ℕ) (x' : Step) → IsNext xs n p k' x' → k' ≡ k
      same k' x' v = by_order (cases_order k' k)
        where
          by_order : (k' ≡ k) ⊎ ((k' < k) ⊎ (k < k')) → k' ≡ k
          by_order (inl e) = e
          by_order (inr (inl l)) = absurd (both (takes_part x' p) v.part (w.lowest k' x' v.later l v.there))
          by_order (inr (inr l)) = absurd (both (takes_part x p) w.part (v.lowest k x w.later l w.there))

      go : (o : Option (ℕ × Step)) → o ≡ next_of xs n p → next_of xs n p ≡ Some (k, x)
      go None e = let f = next_is None e in absurd (both (takes_part x p) w.part (f k x w.later w.there))
      go (Some y) e =
          let v = next_is (Some y) e in
          let q : y.0 ≡ k = same y.0 y.1 v in
          let t : y.1 ≡ x = some_is (sym v.there ∙ ap (nth xs) q ∙ w.there) in
          sym e ∙ ap (λ u. Some (u, y.1)) q ∙ ap (λ u. Some (k, u)) t

  -- what is the next step is found, and none where none is left
  pub next_only : (o : Option (ℕ × Step)) → Next xs n p o → o ≡ next_of xs n p
  next_only None w = by (next_of xs n p) refl
    where
      by : (o : Option (ℕ × Step)) → o ≡ next_of xs n p → None ≡ o
      by None e = refl
      by (Some y) e = let v = next_is (Some y) e in absurd (both (takes_part y.1 p) v.part (w y.0 y.1 v.later v.there))
  next_only (Some y) w = sym (next_at y.0 y.1 w)

  -- what a search from n on finds
  pub next_found : (end : ℕ) → end ≡ length xs → (o : Option (ℕ × Step))
      → MatchOption o ((k : ℕ) → n ≤ k → k < end → (x : Step) → nth xs k ≡ Some x → takes_part x p ≡ false)
      (λ y. (k : ℕ) × (n ≤ k) × ((y.0 ≡ k) × (nth xs k ≡ Some y.1) × (takes_part y.1 p ≡ true)) × ((j : ℕ) → n ≤ j → j < k → (x : Step) → nth xs j ≡ Some x → takes_part x p ≡ false))
      → Next xs n p o
  next_found end e None w = λ j y l q. w j l (omega (arith, nth_below xs j y q)) y q
  next_found end e (Some y) (k, l, (q, there, part), lowest) = record {
    later = omega arith;
    there = ap (nth xs) q ∙ there;
    part = part;
    lowest = λ j z u v h. lowest j u (omega arith) z h;
  }
