-- What becomes of a value that is sealed and opened again.
use Rattle.std.specs.Prelude.{◌≡◌, ℕ, true, ◌⊎◌, is_some, Some, None, Err, Result, MatchResult}
use Rattle.provider.specs.declared.ProviderError.{ProviderError}
use Rattle.provider.specs.declared.ProviderError.TheVariants.{Wrong, Full}
use Rattle.provider.specs.Algebra.{Algebra}
use Rattle.provider.specs.Meaning.{Meaning, stands, Kept}

-- The content c sealed under the key k and opened with its mate: the answer r stands for the content, and under a key
-- that has a mate only Full can stop it.
pub record Reopened {S X : Type 0} (f : Algebra X) (meaning : S → Meaning X) (s : S) (c k : ℕ) (r : Result ℕ ProviderError) (s' : S) : Type 0 where
  pub content : (x y : X) → stands (meaning s).issued c ≡ Some x → stands (meaning s).issued k ≡ Some y → is_some (f.mate y) ≡ true → MatchResult r (λ h. stands (meaning s').issued h ≡ Some x) (λ e. e ≡ Full)
  pub unissued : (stands (meaning s).issued c ≡ None) ⊎ (stands (meaning s).issued k ≡ None) → (r ≡ Err Wrong) × (s' ≡ s)
  pub kept : Kept (meaning s).issued (meaning s').issued
