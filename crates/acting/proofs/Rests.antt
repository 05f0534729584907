-- What a loop over items keeps: whatever does what is left does the whole.
use Rattle.std.proofs.Common.{◌≡◌, ℕ, ◌+◌, ◌<◌, ◌≤◌, List, [], ◌∷◌, length, take, drop, set, Some, None, Ok, Err, Option, Result, MatchResult, ap, sym, refl, ◌∙◌, subst, inl, inr, add-one, arith, drop_of_length-le, length-take}
use Rattle.std.specs.Result.{IsErrAnd}
use Rattle.provider.specs.declared.ProviderError.{ProviderError}
use Rattle.provider.specs.Algebra.{Algebra}
use Rattle.provider.specs.Meaning.{Meaning}
use Rattle.rules.specs.State.{nth}
use Rattle.acting.specs.declared.halt.Halt.{Halt}
use Rattle.acting.specs.Acts.{Act, Acts, Acting}
use Rattle.acting.proofs.Lines.{drop_nth, drop_none, nth_take, nth_take_none}

module _ (Q : ProviderError → Halt → Type 0) where
  of_ok : (c : Result ℕ ProviderError) (d : Result ℕ Halt) (h : ℕ) → MatchResult c (λ h. d ≡ Ok h) (λ x. IsErrAnd d (Q x)) → d ≡ Ok h → c ≡ Ok h
  of_ok (Ok x) d h q u = let z : x ≡ h = cc in ap Ok z
  of_ok (Err x) (Ok y) h q u = absurd q
  of_ok (Err x) (Err y) h q u = cc

  of_err : (c : Result ℕ ProviderError) (d : Result ℕ Halt) (h : Halt) → MatchResult c (λ h. d ≡ Ok h) (λ x. IsErrAnd d (Q x)) → d ≡ Err h → (x : ProviderError) × (c ≡ Err x) × Q x h
  of_err (Ok x) d h q u = cc
  of_err (Err x) (Ok y) h q u = absurd q
  of_err (Err x) (Err y) h q u = let z : y ≡ h = cc in (x, refl, subst (Q x) z q)

-- What does the items is from the number k on, n being counted before, does the items of a whole from its beginning.
pub record Rest {S X I : Type 0} (f : Algebra X) (m : S → Meaning X) (act : List ℕ → ℕ → I → Act) (count : I → ℕ) (place : ℕ → ℕ) (is : List I) (k n : ℕ) (s : S) (hs : List ℕ)
    (is₀ : List I) (k₀ : ℕ) (s₀ : S) (hs₀ : List ℕ) : Type 0 where
  pub does : (r : Result ℕ Halt) (s' : S) (hs' : List ℕ) → Acting f m act count place is k n s hs r s' hs' → Acting f m act count place is₀ k₀ 0 s₀ hs₀ r s' hs'

-- the item k of a list of which the first `end` are done
module _ {S X I : Type 0} {f : Algebra X} {m : S → Meaning X} {act : List ℕ → ℕ → I → Act} {count : I → ℕ} {place : ℕ → ℕ} (all : List I) (end : ℕ) {k n : ℕ} {s : S} {hs : List ℕ}
    {is₀ : List I} {k₀ : ℕ} {s₀ : S} {hs₀ : List ℕ} (rest : Rest f m act count place (drop k (take end all)) k n s hs is₀ k₀ s₀ hs₀) where
  opened : (i : I) (o : Option I) → k < end → o ≡ nth all k → o ≡ Some i → Rest f m act count place (i ∷ drop (k + 1) (take end all)) k n s hs is₀ k₀ s₀ hs₀
  opened i o l w e =
      let p : drop k (take end all) ≡ i ∷ drop (k + 1) (take end all) = drop_nth (take end all) k i (nth_take end all k i l (sym w ∙ e)) ∙ rw add-one refl in
      record { does = λ r s' hs' a. rest.does r s' hs' (subst (λ is. Acting f m act count place is k n s hs r s' hs') (sym p) a) }

  -- an item with what came of it, and what is answered of that: a handle as it is, and an error with the item's number
  module _ (i : I) (o : Option I) (s₁ : S) (c : Result ℕ ProviderError) (d : Result ℕ Halt) (Q : ProviderError → Halt → Type 0) (l : k < end) (w : o ≡ nth all k) (e : o ≡ Some i)
      (a : Acts f m (act hs k i) s c s₁) (q : MatchResult c (λ h. d ≡ Ok h) (λ x. IsErrAnd d (Q x))) where
    pub rest_more : (h : ℕ) → d ≡ Ok h → Rest f m act count place (drop (k + 1) (take end all)) (k + 1) (n + count i) s₁ (set hs (place k) h) is₀ k₀ s₀ hs₀
    rest_more h u =
        let v : c ≡ Ok h = of_ok Q c d h q u in
        record { does = λ r s' hs' b. (opened i o l w e).does r s' hs' (inl (h, s₁, subst (λ y. Acts f m (act hs k i) s y s₁) v a, b)) }

    pub rest_stop : (h : Halt) → d ≡ Err h → ((x : ProviderError) (y : Halt) → Q x y → y ≡ record { at = k; error = x }) → Acting f m act count place is₀ k₀ 0 s₀ hs₀ (Err h) s₁ hs
    rest_stop h u named =
        let v = of_err Q c d h q u in
        (opened i o l w e).does (Err h) s₁ hs (inr (v.0, subst (λ y. Acts f m (act hs k i) s y s₁) v.1 a, ap Err (named v.0 h v.2), refl))

  ended : drop k (take end all) ≡ [] → Acting f m act count place is₀ k₀ 0 s₀ hs₀ (Ok n) s hs
  ended p = rest.does (Ok n) s hs (subst (λ is. Acting f m act count place is k n s hs (Ok n) s hs) (sym p) (refl, refl, refl))

  pub rest_out : (o : Option I) → o ≡ nth all k → o ≡ None → Acting f m act count place is₀ k₀ 0 s₀ hs₀ (Ok n) s hs
  rest_out o w e = ended (drop_none (take end all) k (nth_take_none end all k (sym w ∙ e)))

  pub rest_end : end ≤ k → Acting f m act count place is₀ k₀ 0 s₀ hs₀ (Ok n) s hs
  rest_end l = let t = length-take end all in let z : length (take end all) ≤ k = omega arith in ended (drop_of_length-le (take end all) z)
