-- Which slot holds which term, and how a script grows by lines that fit what stands before them.
use Rattle.std.specs.Prelude.{◌≡◌, ℕ, zero, suc, ◌⊎◌, List, [], ◌∷◌, ◌++◌, length, Some, None, Option}
use Rattle.deduction.specs.Term.{party, public, Form, pair, sealed, Term, name, built, mate, opener, Named, In}
use Rattle.deduction.specs.Derive.{DerivesFrom}
use Rattle.deduction.specs.Compose.{Composable}
use Rattle.rules.specs.Script.{Op, GIVEN, FRESH, FROM, TO, RECV, MATE, LEFT, RIGHT, JOIN, SEAL, DIGEST, ENTRY, OPEN, SAME, SEND, Line, Script, line}
use Rattle.rules.specs.Script.{◌then◌, held, builder}
use Rattle.rules.specs.History.{FreshKind}

-- the term that a slot holds, if it holds one
abbrev pub holds_at : Script → ℕ → Option Term
holds_at [] n = None
holds_at (l ∷ s) zero = l.holds
holds_at (l ∷ s) (suc n) = holds_at s n

-- the slot holds the term
abbrev pub Holds : Script → ℕ → Term → Type 0
Holds s n t = holds_at s n ≡ Some t

-- the script goes on from the earlier one
abbrev pub Begins : Script → Script → Type 0
Begins s s' = (more : Script) × (s' ≡ s ++ more)

-- no term is held by two slots
abbrev pub Apart : Script → Type 0
Apart s = (i j : ℕ) (t : Term) → Holds s i t → Holds s j t → i ≡ j

-- lines are added one after the other, each such as Q asks for after the script before it
pub data Grows (Q : Script → Line → Type 0) : Script → Script → Type 0 where
  stays : {s : Script} → Grows Q s s
  adds : {s s1 : Script} {l : Line} → Grows Q s s1 → Q s1 l → Grows Q s (s1 then l)

-- the line builds a term that no slot holds, and of which P holds, from the slots of its parts
pub record Builds (P : Term → Type 0) (s : Script) (l : Line) : Type 0 where
  pub form : Form
  pub first : Term
  pub second : Term
  pub slot_1 : ℕ
  pub slot_2 : ℕ
  pub op_is : l.op ≡ builder form slot_1 slot_2
  pub holds_is : l.holds ≡ Some (built form first second)
  pub first_held : Holds s slot_1 first
  pub second_held : Holds s slot_2 second
  pub unheld : In (built form first second) (held s) → ⊥
  pub within : P (built form first second)

-- the instruction names the term
abbrev pub Names : Op → Term → Type 0
Names (GIVEN t) u = t ≡ u
Names (FRESH t) u = t ≡ u
Names (FROM t) u = t ≡ u
Names (TO t) u = t ≡ u
Names (RECV t) u = t ≡ u
Names (MATE n) u = ⊥
Names (LEFT n) u = ⊥
Names (RIGHT n) u = ⊥
Names (JOIN n m) u = ⊥
Names (SEAL n m) u = ⊥
Names (DIGEST n m) u = ⊥
Names (ENTRY n m) u = ⊥
Names (OPEN n m) u = ⊥
Names (SAME n m) u = ⊥
Names (SEND n m) u = ⊥

-- the instruction brings the term in: it names the term or makes the mate of a held key, and G allows that; or it takes a held term apart
pub data Brings (G : Op → Term → Type 0) (s : Script) : Op → Term → Type 0 where
  gives : {op : Op} {t : Term} → Names op t → G op t → Brings G s op t
  mates : {n : ℕ} {k : Term} → Holds s n k → G (MATE n) (mate k) → Brings G s (MATE n) (mate k)
  takes_left : {n : ℕ} {a b : Term} → Holds s n (built pair a b) → Brings G s (LEFT n) a
  takes_right : {n : ℕ} {a b : Term} → Holds s n (built pair a b) → Brings G s (RIGHT n) b
  opens : {n o : ℕ} {c k : Term} → Holds s n (built sealed c k) → Holds s o (opener k) → Brings G s (OPEN n o) c

-- the line at slot n brought the term in
abbrev pub BroughtAt : (Op → Term → Type 0) → Script → ℕ → Term → Type 0
BroughtAt G s n t = (before : Script) × (l : Line) × (later : Script) × (s ≡ before ++ (l ∷ later)) × (n ≡ length before) × Brings G before l.op t

-- a line that fits: it builds a term, or brings one in that is new and then held, or one that can be composed, which is not held but
-- compared next; or it compares what a line brought in with an equal term that is held; or it sends what is held
pub data Fits (P : Term → Type 0) (G : Op → Term → Type 0) (s : Script) : Line → Type 0 where
  building : {l : Line} → Builds P s l → Fits P G s l
  bringing : {op : Op} {t : Term} → Brings G s op t → (In t (held s) → ⊥) → P t → Fits P G s (line op (Some t))
  repeating : {op : Op} {t : Term} → Brings G s op t → Composable (held s) t → Fits P G s (line op None)
  comparing : {n m : ℕ} {t : Term} → BroughtAt G s n t → Holds s m t → Fits P G s (line (SAME n m) None)
  sending : {m a : ℕ} {t u : Term} → Holds s m t → Holds s a u → Fits P G s (line (SEND m a) None)

-- with a term P holds of all its parts
pub record Closed (P : Term → Type 0) : Type 0 where
  pub firsts : (f : Form) (a b : Term) → P (built f a b) → P a
  pub seconds : (f : Form) (a b : Term) → P (built f a b) → P b
  pub keys : (k : Term) → P (mate k) → P k

-- P holds of every two-part term in the term, save inside mates
abbrev pub Within : (Term → Type 0) → Term → Type 0
Within P (name k i) = Unit {0}
Within P (built f a b) = P (built f a b) × Within P a × Within P b
Within P (mate k) = Unit {0}

-- a name of a kind that can be fresh
abbrev pub CanBeFresh : Term → Type 0
CanBeFresh (name k i) = FreshKind k
CanBeFresh (built f a b) = ⊥
CanBeFresh (mate k) = ⊥

-- which terms instructions name in a script: FRESH a name that can be fresh, FROM and TO a party's name, and MATE makes the mate of a
-- public key
abbrev pub Proper : Op → Term → Type 0
Proper (GIVEN t) u = Unit {0}
Proper (FRESH t) u = CanBeFresh t
Proper (FROM t) u = Named party t
Proper (TO t) u = Named party t
Proper (RECV t) u = Unit {0}
Proper (MATE n) u = (i : ℕ) × (u ≡ mate (name public i))
Proper (LEFT n) u = Unit {0}
Proper (RIGHT n) u = Unit {0}
Proper (JOIN n m) u = Unit {0}
Proper (SEAL n m) u = Unit {0}
Proper (DIGEST n m) u = Unit {0}
Proper (ENTRY n m) u = Unit {0}
Proper (OPEN n m) u = Unit {0}
Proper (SAME n m) u = Unit {0}
Proper (SEND n m) u = Unit {0}

-- the script is written line by line, each fitting, and holds only terms of the list
abbrev pub Written : List Term → Script → Type 0
Written ts s = Grows (Fits (λ t. In t ts) Proper) [] s

-- what a script gains by an effect that gives the new terms: it goes on from the earlier script, what is new can be composed, each held
-- term is derivable from what was held and what is new, and no term is held twice if none was
pub record Gains (s : Script) (New : Term → Type 0) (s' : Script) : Type 0 where
  pub begins : Begins s s'
  pub covers : (t : Term) → New t → Composable (held s') t
  pub sound : (t : Term) → In t (held s') → DerivesFrom (λ u. In u (held s) ⊎ New u) t
  pub apart : Apart s → Apart s'

-- fresh names bring themselves, and the mates of the public keys among them
abbrev pub FreshTerm : List Term → Term → Type 0
FreshTerm ts u = In u ts ⊎ ((i : ℕ) × (u ≡ mate (name public i)) × In (name public i) ts)

abbrev pub IsName : Term → Type 0
IsName (name k i) = Unit {0}
IsName (built f a b) = ⊥
IsName (mate k) = ⊥

-- no two places of the list have the same term
abbrev pub Once : List Term → Type 0
Once [] = Unit {0}
Once (t ∷ ts) = (In t ts → ⊥) × Once ts

-- no held term is fresh
abbrev pub Unheld : Script → List Term → Type 0
Unheld s ts = (u : Term) → FreshTerm ts u → In u (held s) → ⊥
