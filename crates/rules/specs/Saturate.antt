-- Saturating: taking apart what is held, at the lowest slot where that gives something new, until nothing is left.
use Rattle.std.specs.Prelude.{◌≡◌, ℕ, zero, suc, ◌+◌, cond, List, [], ◌∷◌, ◌++◌, length, Some, None, Option}
use Rattle.deduction.specs.Term.{Form, pair, sealed, digest, entry, Term, name, built, mate, opener}
use Rattle.rules.specs.Script.{LEFT, RIGHT, OPEN, Script, line, ◌then◌, held}
use Rattle.rules.specs.Compose.{Composed, compose, composes}

-- the opener composed, then OPEN, whose slot holds the content
abbrev pub opened : ℕ → Term → Option Composed → Option Script
opened n c None = None
opened n c (Some o) = Some (o.script then line (OPEN n o.slot) (Some c))

-- what is taken from the pair or the sealed term at slot n: the left half, failing that the right half, or the content
abbrev pub take_form : Script → ℕ → Form → Term → Term → Option Script
take_form s n pair a b =
    cond (composes s a) (cond (composes s b) None (Some (s then line (RIGHT n) (Some b)))) (Some (s then line (LEFT n) (Some a)))
take_form s n sealed c k = cond (composes s c) None (opened n c (compose s (opener k)))
take_form s n digest f t = None
take_form s n entry t p = None

abbrev pub take_term : Script → ℕ → Term → Option Script
take_term s n (name k i) = None
take_term s n (built f a b) = take_form s n f a b
take_term s n (mate k) = None

abbrev pub take_held : Script → ℕ → Option Term → Option Script
take_held s n None = None
take_held s n (Some t) = take_term s n t

abbrev pub first_of : Option Script → Option Script → Option Script
first_of None o = o
first_of (Some s) o = Some s

-- the lowest slot of the rest, whose first slot is n, where something is taken
abbrev pub take_from : Script → ℕ → Script → Option Script
take_from s n [] = None
take_from s n (l ∷ rest) = first_of (take_held s n l.holds) (take_from s (n + 1) rest)

-- one step; None where none is left
abbrev pub take_apart : Script → Option Script
take_apart s = take_from s 0 s

-- s is saturated to s': step by step until none is left
pub data Saturates : Script → Script → Type 0 where
  done : {s : Script} → take_apart s ≡ None → Saturates s s
  more : {s s1 s' : Script} → take_apart s ≡ Some s1 → Saturates s1 s' → Saturates s s'

abbrev pub go_on : (Script → Script) → Script → Option Script → Script
go_on rest s None = s
go_on rest s (Some s1) = rest s1

-- at most n steps
abbrev pub steps : ℕ → Script → Script
steps zero s = s
steps (suc n) s = go_on (steps n) s (take_apart s)

-- every term in a term, itself too
abbrev pub parts : Term → List Term
parts (name k i) = name k i ∷ []
parts (built f a b) = built f a b ∷ (parts a ++ parts b)
parts (mate k) = mate k ∷ parts k

abbrev pub all_parts : List Term → List Term
all_parts [] = []
all_parts (t ∷ ts) = parts t ++ all_parts ts

-- as many steps as there are terms in what is held are enough
unfoldable pub saturate : Script → Script
saturate s = steps (length (all_parts (held s))) s
