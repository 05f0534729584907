-- The issued handles and what they stand for.
use Rattle.std.specs.Prelude.{◌≡◌, ℕ, zero, suc, ◌+◌, ◌<◌, ◌≤◌, ◌≢◌, List, [], ◌∷◌, ◌++◌, length, get_or, is_some, Some, None, slice_index_or, slice_set, refl}
use Rattle.std.proofs.Common.{sym, ap, ◌∙◌, ⊎_elim, arith, add-one, length-append, get_or-set_other, get_or-set_same, eq-eqb, ne_eqb}
use Rattle.std.proofs.lemmas.Bool.{cases_eq, cases_lt, false≢true}
use Rattle.std.proofs.lemmas.List.{get_or_at, get_or_append_left}
use Rattle.provider.specs.Meaning.{stands}
use Rattle.byte_provider.specs.declared.span.Span.{Span}
use Rattle.byte_provider.specs.Held.{part, Inside, no_span}
use Rattle.byte_provider.specs.State.{issued_below}
use Rattle.byte_provider.specs.Parts.{part_front}

module _ (xs : List ℕ) (spans : List Span) where
  pub stands_in : (n k : ℕ) → k < n → stands (issued_below xs spans n) k ≡ Some (part xs (slice_index_or spans k no_span))
  stands_in zero k h = absurd (omega arith)
  stands_in (suc n) k h =
      ⊎_elim
      (λ (e : n ≡ k). rw (eq-eqb n k e, e) refl)
      (λ (ne : n ≡ k → ⊥). rw (ne_eqb n k ne) (stands_in n k (omega (arith, ne))))
      (cases_eq n k)

  pub stands_out : (n k : ℕ) → n ≤ k → stands (issued_below xs spans n) k ≡ None
  stands_out zero k h = refl
  stands_out (suc n) k h = let ne : n ≡ k → ⊥ = λ e. omega arith in rw (ne_eqb n k ne) (stands_out n k (omega arith))

  -- only a handle below n stands for something
  pub below : (n k : ℕ) (x : List ℕ) → stands (issued_below xs spans n) k ≡ Some x → k < n
  below n k x h =
      ⊎_elim (λ (l : k < n). l)
      (λ (g : n ≤ k). absurd (false≢true (ap is_some (sym (stands_out n k g) ∙ h))))
      (cases_lt k n)

  pub length_issued : (n : ℕ) → length (issued_below xs spans n) ≡ n
  length_issued zero = refl
  length_issued (suc n) = ap suc (length_issued n)

  -- more bytes at the end change no value
  pub issued_more : (ys : List ℕ) (n : ℕ) → ((k : ℕ) → k < n → Inside xs (slice_index_or spans k no_span)) → issued_below (xs ++ ys) spans n ≡ issued_below xs spans n
  issued_more ys zero w = refl
  issued_more ys (suc n) w =
      let e = part_front xs ys (slice_index_or spans n no_span) (w n (omega arith)) in
      rw (e, issued_more ys n (λ k h. w k (omega arith))) refl

  -- nor does the span of a later handle
  issued_set : (i : ℕ) (p : Span) (n : ℕ) → n ≤ i → issued_below xs (slice_set spans i p) n ≡ issued_below xs spans n
  issued_set i p zero h = refl
  issued_set i p (suc n) h =
      let ne : n ≢ i = omega arith in
      rw (get_or-set_other spans i n p no_span ne, issued_set i p n (omega arith)) refl

  -- the next handle
  pub issued_next : (n : ℕ) (p : Span) → n < length spans → issued_below xs (slice_set spans n p) (n + 1) ≡ (n, part xs p) ∷ issued_below xs spans n
  issued_next n p h = rw (add-one, get_or-set_same spans n p no_span h, issued_set n p n (omega arith)) refl

  -- the same of spans to which one is put behind the others
  issued_push : (p : Span) (n : ℕ) → n ≤ length spans → issued_below xs (spans ++ p ∷ []) n ≡ issued_below xs spans n
  issued_push p zero h = refl
  issued_push p (suc n) h = rw (get_or_append_left spans (p ∷ []) no_span n (omega arith), issued_push p n (omega arith)) refl

  pub issued_pushed : (p : Span) → issued_below xs (spans ++ p ∷ []) (length (spans ++ p ∷ [])) ≡ (length spans, part xs p) ∷ issued_below xs spans (length spans)
  issued_pushed p =
      let n : length (spans ++ p ∷ []) ≡ suc (length spans) = omega (arith, length-append spans (p ∷ [])) in
      rw (n, get_or_at spans p [] no_span (length spans) refl, issued_push p (length spans) (omega arith)) refl

-- the spans lie in the bytes in use still, and so does the next
pub within_next : (spans : List Span) (n used more : ℕ) (p : Span) → n < length spans → used ≤ more → p.start + p.len ≤ more → ((k : ℕ) → k < n → (get_or spans k no_span).start + (get_or spans k no_span).len ≤ used) → (k : ℕ) → k < n + 1 → (get_or (slice_set spans n p) k no_span).start + (get_or (slice_set spans n p) k no_span).len ≤ more
within_next spans n used more p l u h w k lk =
    ⊎_elim
    (λ (e : k ≡ n). rw (e, get_or-set_same spans n p no_span l) h)
    (λ (ne : k ≡ n → ⊥). rw (get_or-set_other spans n k p no_span ne) (let b = w k (omega (arith, ne)) in omega (arith, b)))
    (cases_eq k n)
