-- Scripts: instructions in order, each with a slot for its result, and which term a slot holds.
use Rattle.std.specs.Prelude.{ℕ, ◌+◌, Bool, false, cond, List, [], ◌∷◌, ◌++◌, Some, None, Option}
use Rattle.deduction.specs.Decide.{same_term}
use Rattle.deduction.specs.Term.{Form, pair, sealed, digest, entry, Term}

-- Instructions. GIVEN, FRESH, FROM, TO and RECV name a term; the others name slots: JOIN, SEAL, DIGEST and ENTRY those of the two
-- parts in order, OPEN those of sealed term and opener, SAME the two compared, SEND those of message and address.
pub data Op : Type 0 where
  GIVEN FRESH FROM TO RECV : Term → Op
  MATE LEFT RIGHT : ℕ → Op
  JOIN SEAL DIGEST ENTRY OPEN SAME SEND : ℕ → ℕ → Op

-- an instruction, and the term that its slot holds, if it holds one
pub record Line : Type 0 where
  pub op : Op
  pub holds : Option Term

-- the slots are numbered from 0
abbrev pub Script : Type 0
Script = List Line

abbrev pub line : Op → Option Term → Line
line op h = record { op = op; holds = h }

-- the script with one instruction more
infixl 20 ◌then◌
abbrev pub ◌then◌ : Script → Line → Script
s then l = s ++ (l ∷ [])

abbrev pub is_term : Term → Option Term → Bool
is_term t None = false
is_term t (Some u) = same_term u t

abbrev pub find_from : ℕ → Script → Term → Option ℕ
find_from n [] t = None
find_from n (l ∷ s) t = cond (is_term t l.holds) (Some n) (find_from (n + 1) s t)

-- the lowest slot that holds the term
unfoldable pub find : Script → Term → Option ℕ
find s t = find_from 0 s t

abbrev pub holding : Option Term → List Term → List Term
holding None ts = ts
holding (Some t) ts = t ∷ ts

-- the terms that the slots hold
abbrev pub held : Script → List Term
held [] = []
held (l ∷ s) = holding l.holds (held s)

-- the instruction that builds a form from the slots of its parts
abbrev pub builder : Form → ℕ → ℕ → Op
builder pair i j = JOIN i j
builder sealed i j = SEAL i j
builder digest i j = DIGEST i j
builder entry i j = ENTRY i j
