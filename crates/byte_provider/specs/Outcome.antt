-- The whole outcome of each call of the byte provider.
use Rattle.std.specs.Prelude.{◌≡◌, ℕ, true, false, List, [], ◌∷◌, ◌++◌, length, is_some, Some, None, Ok, Err, Result}
use Rattle.provider.specs.declared.Making.{Making}
use Rattle.provider.specs.declared.ProviderError.{ProviderError}
use Rattle.provider.specs.declared.ProviderError.TheVariants.{Wrong, Full}
use Rattle.provider.specs.Meaning.{Answers}
use Rattle.byte_provider.specs.declared.store.ByteProvider.{ByteProvider}
use Rattle.byte_provider.specs.State.{bytes_of, issued_of, made_of, fits_of, meaning_of, stored}
use Rattle.byte_provider.specs.Values.{byte_algebra}

-- The next handle, counted from 0, was issued for the value made; the bytes that the making takes follow those in use.
pub record Granted (s : ByteProvider) (m : Making) (h : ℕ) (s' : ByteProvider) : Type 0 where
  pub value : List ℕ
  pub makes : made_of s m ≡ Some value
  pub fits : fits_of s m ≡ true
  pub handle : h ≡ length (issued_of s)
  pub issued : issued_of s' ≡ (h, value) ∷ issued_of s
  pub bytes : bytes_of s' ≡ bytes_of s ++ stored m value

-- Wrong where the making makes nothing, else Full where it does not fit, else granted; a refusal leaves the provider as it was
abbrev pub Outcome : ByteProvider → Making → Result ℕ ProviderError → ByteProvider → Type 0
Outcome s m (Ok h) s' = Granted s m h s'
Outcome s m (Err Wrong) s' = (made_of s m ≡ None) × (s' ≡ s)
Outcome s m (Err Full) s' = (is_some (made_of s m) ≡ true) × (fits_of s m ≡ false) × (s' ≡ s)

-- both what every provider answers and the whole outcome
pub record Done (s : ByteProvider) (m : Making) (r : Result ℕ ProviderError) (s' : ByteProvider) : Type 0 where
  pub answers : Answers byte_algebra meaning_of s m r s'
  pub outcome : Outcome s m r s'

-- a new provider: no byte is in use, no handle issued
pub record Blank (s : ByteProvider) : Type 0 where
  pub bytes : bytes_of s ≡ []
  pub issued : issued_of s ≡ []
