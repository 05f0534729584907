-- Where the value of a handle lies, and what a plan for a making is.
use Rattle.std.specs.Prelude.{◌≡◌, ℕ, ◌<◌, List, Some, None, Option}
use Rattle.provider.specs.declared.Making.{Making}
use Rattle.provider.specs.declared.Making.TheVariants.{Left, Right}
use Rattle.provider.specs.Meaning.{stands, on}
use Rattle.byte_provider.specs.declared.store.ByteProvider.{ByteProvider}
use Rattle.byte_provider.specs.declared.span.Span.{Span}
use Rattle.byte_provider.specs.declared.plan.KeyType.{KeyType}
use Rattle.byte_provider.specs.declared.plan.Plan.{Plan}
use Rattle.byte_provider.specs.declared.plan.Plan.TheVariants.{Part}
use Rattle.byte_provider.specs.Held.{part, Inside}
use Rattle.byte_provider.specs.Plans.{written, added, Sound}
use Rattle.byte_provider.specs.State.{bytes_of, issued_of, made_of, stored}
use Rattle.byte_provider.specs.Values.{body, key_type}

-- the handle stands for the bytes of the span
pub record Lies (s : ByteProvider) (h : ℕ) (p : Span) : Type 0 where
  pub value : stands (issued_of s) h ≡ Some (part (bytes_of s) p)
  pub within : Inside (bytes_of s) p

abbrev pub Located : ByteProvider → ℕ → Option Span → Type 0
Located s h None = stands (issued_of s) h ≡ None
Located s h (Some p) = Lies s h p

-- the plan writes the value that the making makes
pub record PlanFor (s : ByteProvider) (m : Making) (plan : Plan) : Type 0 where
  pub makes : made_of s m ≡ Some (written (bytes_of s) plan)
  pub sound : Sound (bytes_of s) plan
  pub adds : stored m (written (bytes_of s) plan) ≡ added (bytes_of s) plan

-- a plan, or none where the making is wrong
abbrev pub Planned : ByteProvider → Making → Option Plan → Type 0
Planned s m None = made_of s m ≡ None
Planned s m (Some plan) = PlanFor s m plan

-- where the two parts of a joined value lie, or none where it has none
abbrev pub Halved : ByteProvider → ℕ → Option (Span × Span) → Type 0
Halved s h None = (made_of s (Left h) ≡ None) × (made_of s (Right h) ≡ None)
Halved s h (Some p) = PlanFor s (Left h) (Part p.0) × PlanFor s (Right h) (Part p.1)

-- the handle stands for a key of the type, whose body is the bytes of the span
pub record IsKey (s : ByteProvider) (h : ℕ) (t : KeyType) (p : Span) : Type 0 where
  pub value : List ℕ
  pub is : stands (issued_of s) h ≡ Some value
  pub kind : key_type value ≡ Some t
  pub rest : body value ≡ part (bytes_of s) p
  pub within : Inside (bytes_of s) p
  pub some : 0 < p.len

-- a key's type and body, or none where the handle stands for no key
abbrev pub Keyed : ByteProvider → ℕ → Option (KeyType × Span) → Type 0
Keyed s h None = on (stands (issued_of s) h) key_type ≡ None
Keyed s h (Some p) = IsKey s h p.0 p.1
