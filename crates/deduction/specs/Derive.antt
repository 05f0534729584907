-- What is derivable from givens, and which terms are fresh for them.
use Rattle.std.specs.Prelude.{◌≡◌, ℕ, ◌⊎◌, List, [], ◌∷◌}
use Rattle.deduction.specs.Term.{Kind, party, public, table, function, pair, sealed, digest, entry, Term, name, built, mate, Key, opener, Named, Occurs, among}

-- the term comes in one of the seven ways from terms of which E holds. The ways that build ask for parts that fit, so the ways
-- keep terms well-formed: from well-formed givens every member of a derivation is well-formed, and nothing more has to be asked
pub data Way (E : Term → Type 0) : Term → Type 0 where
  left_half : {a b : Term} → E (built pair a b) → Way E a
  right_half : {a b : Term} → E (built pair a b) → Way E b
  pairing : {a b : Term} → E a → E b → Way E (built pair a b)
  sealing : {c k : Term} → E c → E k → Key k → Way E (built sealed c k)
  opening : {c k : Term} → E (built sealed c k) → E (opener k) → Way E c
  digesting : {f t : Term} → E f → E t → Named function f → Way E (built digest f t)
  looking_up : {t p : Term} → E t → E p → Named table t → Named party p → Way E (built entry t p)

-- a derivation, newest member first: each member is given, or comes from earlier members in one of the seven ways
abbrev pub Derivation : (Term → Type 0) → List Term → Type 0
Derivation Given [] = Unit {0}
Derivation Given (t ∷ ts) = (Given t ⊎ Way (among ts) t) × Derivation Given ts

-- derivable from what is given: some derivation ends with the term
abbrev pub DerivesFrom : (Term → Type 0) → Term → Type 0
DerivesFrom Given t = (ts : List Term) × Derivation Given (t ∷ ts)

-- derivable from the listed givens
abbrev pub Derives : List Term → Term → Type 0
Derives givens t = DerivesFrom (among givens) t

-- a name that occurs in nothing given, or the mate of such a public key
pub record FreshFor (Given : Term → Type 0) (t : Term) : Type 0 where
  pub kind : Kind
  pub identity : ℕ
  pub shape : (t ≡ name kind identity) ⊎ ((kind ≡ public) × (t ≡ mate (name kind identity)))
  pub unused : (g : Term) → Given g → Occurs kind identity g → ⊥

-- fresh for the listed givens
abbrev pub Fresh : List Term → Term → Type 0
Fresh givens t = FreshFor (among givens) t
