-- What is asked of a provider one after the other, and what comes of it.
use Rattle.std.specs.Prelude.{◌≡◌, ℕ, ◌+◌, true, false, ◌⊎◌, List, [], ◌∷◌, Ok, Err, Result, MatchResult, slice_set}
use Rattle.provider.specs.declared.Making.{Making}
use Rattle.provider.specs.declared.ProviderError.{ProviderError}
use Rattle.provider.specs.declared.ProviderError.TheVariants.{Wrong}
use Rattle.provider.specs.Algebra.{Algebra}
use Rattle.provider.specs.Meaning.{Meaning, Answers, Same}
use Rattle.acting.specs.declared.halt.Halt.{Halt}

-- one thing to do: put a handle, make a value, put the first of two handles if they stand for one value, or what is wrong at once
pub data Act : Type 0 where
  put : ℕ → Act
  make : Making → Act
  compare : ℕ → ℕ → Act
  wrong : Act

-- what comes of it, in the state s before it and s' after it
abbrev pub Acts : {S X : Type 0} → Algebra X → (S → Meaning X) → Act → S → Result ℕ ProviderError → S → Type 0
Acts f m (put h) s r s' = (r ≡ Ok h) × (s' ≡ s)
Acts f m (make k) s r s' = Answers f m s k r s'
Acts f m (compare a b) s r s' = MatchResult r (λ h. (h ≡ a) × Same (m s).issued a b true) (λ e. (e ≡ Wrong) × Same (m s).issued a b false) × (s' ≡ s)
Acts f m wrong s r s' = (r ≡ Err Wrong) × (s' ≡ s)

-- The items are done in order, the first under the number k, and the handle that comes of the item k is put at its place in hs; n is
-- what was counted before. The first that is stopped ends it, and leaves all as it is before that item.
abbrev pub Acting : {S X I : Type 0} → Algebra X → (S → Meaning X) → (List ℕ → ℕ → I → Act) → (I → ℕ) → (ℕ → ℕ)
    → List I → ℕ → ℕ → S → List ℕ → Result ℕ Halt → S → List ℕ → Type 0
Acting f m act count place [] k n s hs r s' hs' = (r ≡ Ok n) × (s' ≡ s) × (hs' ≡ hs)
Acting {S} f m act count place (i ∷ is) k n s hs r s' hs' =
    ((h : ℕ) × (s₁ : S) × Acts f m (act hs k i) s (Ok h) s₁ × Acting f m act count place is (k + 1) (n + count i) s₁ (slice_set hs (place k) h) r s' hs')
    ⊎ ((e : ProviderError) × Acts f m (act hs k i) s (Err e) s' × (r ≡ Err (record { at = k; error = e })) × (hs' ≡ hs))

-- what the items count together
abbrev pub total : {I : Type 0} → (I → ℕ) → List I → ℕ
total count [] = 0
total count (i ∷ is) = count i + total count is
