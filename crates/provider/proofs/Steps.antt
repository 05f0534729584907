-- What one answer of a provider says: for any algebra and meaning.
use Rattle.std.proofs.Common.{◌≡◌, ℕ, true, is_some as option_is_some, Some, None, Ok, Err, Option, Result, sym, refl, ap, ◌∙◌, MatchResult}
use mathlib.Core.Bool.{false≢true}
use Rattle.provider.specs.declared.Making.{Making}
use Rattle.provider.specs.declared.ProviderError.{ProviderError}
use Rattle.provider.specs.declared.ProviderError.TheVariants.{Wrong, Full}
use Rattle.provider.specs.Algebra.{Algebra}
use Rattle.provider.specs.Meaning.{Meaning, stands, on, made, Answers}

pub is_some : {X : Type 0} (o : Option X) → option_is_some o ≡ true → (x : X) × (o ≡ Some x)
is_some None e = absurd (false≢true e)
is_some (Some x) e = (x, refl)

-- a making with an operand that was never issued makes nothing
pub on_none : {X Y : Type 0} (o : Option X) → on {Y = Y} o (λ _. None) ≡ None
on_none None = refl
on_none (Some x) = refl

module _ {S X : Type 0} {f : Algebra X} {m : S → Meaning X} where
  -- what is not wrong is stopped by Full alone
  pub full_only : {s s' : S} {k : Making} (e : ProviderError) → option_is_some (made f (m s).issued k) ≡ true → Answers f m s k (Err e) s' → e ≡ Full
  full_only Wrong h a = absurd (false≢true (sym a.verdict ∙ h))
  full_only Full h a = refl

  -- what a making answers, where the value that it makes is known
  pub answered : {s s' : S} {k : Making} {x : X} (r : Result ℕ ProviderError) → made f (m s).issued k ≡ Some x → Answers f m s k r s' → MatchResult r (λ h. stands (m s').issued h ≡ Some x) (λ e. e ≡ Full)
  answered (Ok h) e a = a.answer ∙ e
  answered (Err y) e a = full_only y (ap option_is_some e) a

  -- what makes nothing is not granted
  pub not_granted : {Z : Type 0} {s s' : S} {k : Making} {h : ℕ} → made f (m s).issued k ≡ None → Answers f m s k (Ok h) s' → Z
  not_granted e a = absurd (false≢true (ap option_is_some (sym e) ∙ a.verdict.0))
