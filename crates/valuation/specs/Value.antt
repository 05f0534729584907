-- The value of a term on a provider.
use Rattle.std.specs.Prelude.{◌≡◌, ℕ, cond, List, Some, None, Option}
use Rattle.deduction.specs.Term.{Kind, party, number, shared, public, table, function, Form, pair, sealed, digest, entry, Term, name, built, mate, In}
use Rattle.provider.specs.Algebra.{Algebra}
use Rattle.provider.specs.Meaning.{on, is_atom}

-- the number of a kind
abbrev pub code : Kind → ℕ
code party = 0
code number = 1
code shared = 2
code public = 3
code table = 4
code function = 5

-- what a form makes of the values of its parts
abbrev pub form_value : {X : Type 0} → Algebra X → Form → X → X → Option X
form_value f pair x y = Some (f.join x y)
form_value f sealed x y = f.seal x y
form_value f digest x y = f.digest x y
form_value f entry x y = f.entry x y

-- the value of a term: a name is the atom of its kind and identity
abbrev pub value : {X : Type 0} → Algebra X → Term → Option X
value f (name k i) = cond (is_atom (code k) i) (Some (f.atom (code k) i)) None
value f (built g a b) = on (value f a) (λ x. on (value f b) (λ y. form_value f g x y))
value f (mate k) = on (value f k) f.mate

-- the term has a value, of which P holds
abbrev pub HasValue : {X : Type 0} → (X → Type 0) → Algebra X → Term → Type 0
HasValue {X} P f t = (x : X) × (value f t ≡ Some x) × P x

-- every one of the terms has
abbrev pub Valued : {X : Type 0} → (X → Type 0) → Algebra X → List Term → Type 0
Valued P f ts = (t : Term) → In t ts → HasValue P f t
