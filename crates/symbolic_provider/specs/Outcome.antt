-- The whole outcome of each call of the symbolic provider.
use Rattle.std.specs.Prelude.{◌≡◌, ℕ, true, false, cond, ◌∷◌, length, is_some, Some, None, Ok, Err, Result}
use Rattle.deduction.specs.Term.{Term}
use Rattle.provider.specs.declared.Making.{Making}
use Rattle.provider.specs.declared.ProviderError.{ProviderError}
use Rattle.provider.specs.declared.ProviderError.TheVariants.{Wrong, Full}
use Rattle.provider.specs.Meaning.{stands, Answers}
use Rattle.symbolic_provider.specs.declared.store.SymbolicProvider.{SymbolicProvider}
use Rattle.symbolic_provider.specs.State.{issued_of, made_of, fits_of, is_held, meaning_of}
use Rattle.symbolic_provider.specs.Values.{term_algebra}

-- The handle stands for the term made. A term that was held has the handle that it had, and nothing is issued; a new one has the
-- next handle, counted from 0.
pub record Granted (s : SymbolicProvider) (m : Making) (h : ℕ) (s' : SymbolicProvider) : Type 0 where
  pub value : Term
  pub makes : made_of s m ≡ Some value
  pub fits : fits_of s m ≡ true
  pub issued : issued_of s' ≡ cond (is_held (issued_of s) value) (issued_of s) ((h, value) ∷ issued_of s)
  pub handle : stands (issued_of s') h ≡ Some value
  pub next : is_held (issued_of s) value ≡ false → h ≡ length (issued_of s)

-- Wrong where the making makes nothing, else Full where it does not fit, else granted; a refusal leaves the provider as it was
abbrev pub Outcome : SymbolicProvider → Making → Result ℕ ProviderError → SymbolicProvider → Type 0
Outcome s m (Ok h) s' = Granted s m h s'
Outcome s m (Err Wrong) s' = (made_of s m ≡ None) × (s' ≡ s)
Outcome s m (Err Full) s' = (is_some (made_of s m) ≡ true) × (fits_of s m ≡ false) × (s' ≡ s)

-- both what every provider answers and the whole outcome
pub record Done (s : SymbolicProvider) (m : Making) (r : Result ℕ ProviderError) (s' : SymbolicProvider) : Type 0 where
  pub answers : Answers term_algebra meaning_of s m r s'
  pub outcome : Outcome s m r s'
