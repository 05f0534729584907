-- Whether a sealed value opens to a plan.
use Rattle.std.specs.Prelude.{◌≡◌, ℕ, Bool, true, false, Some, Ok, Err, Result, ◌≢◌}
use Rattle.provider.specs.declared.Making.TheVariants.{Open}
use Rattle.provider.specs.declared.ProviderError.{ProviderError}
use Rattle.provider.specs.declared.ProviderError.TheVariants.{Full}
use Rattle.provider.specs.Algebra.{Algebra}
use Rattle.provider.specs.Meaning.{Meaning, stands, made, Kept}

-- yes: what the opening makes is the plan's value, as the plan's handle stands afterwards; no: it is not
abbrev pub Opened : {S X : Type 0} → Algebra X → (S → Meaning X) → S → ℕ → ℕ → ℕ → Bool → S → Type 0
Opened {S} {X} f m s sealed opener plan true s' = (x : X) × (stands (m s').issued plan ≡ Some x) × (made f (m s).issued (Open sealed opener) ≡ Some x)
Opened {S} {X} f m s sealed opener plan false s' = (x : X) → stands (m s').issued plan ≡ Some x → made f (m s).issued (Open sealed opener) ≢ Some x

-- the answer, or Full with nothing altered
abbrev pub Answer : {S X : Type 0} → Algebra X → (S → Meaning X) → S → ℕ → ℕ → ℕ → Result Bool ProviderError → S → Type 0
Answer f m s sealed opener plan (Ok b) s' = Opened f m s sealed opener plan b s'
Answer f m s sealed opener plan (Err e) s' = (e ≡ Full) × (s' ≡ s)

pub record OpensTo {S X : Type 0} (f : Algebra X) (m : S → Meaning X) (s : S) (sealed opener plan : ℕ) (r : Result Bool ProviderError) (s' : S) : Type 0 where
  pub answer : Answer f m s sealed opener plan r s'
  pub kept : Kept (m s).issued (m s').issued
