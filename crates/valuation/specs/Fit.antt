-- The term that each slot of a script stands for, and that every instruction finds what it asks for.
use Rattle.std.specs.Prelude.{◌≡◌, ℕ, ◌<◌, ◌≤◌, List, [], ◌∷◌, ◌++◌, length, Some, None, Option, slice_index_or}
use Rattle.deduction.specs.Term.{Form, pair, sealed, digest, entry, Term, name, built, mate, party, public, mate_of, opener, Key, PartsFit, Asymmetric, In}
use Rattle.provider.specs.Algebra.{last_id}
use Rattle.rules.specs.Script.{Op, GIVEN, FRESH, FROM, TO, RECV, MATE, LEFT, RIGHT, JOIN, SEAL, DIGEST, ENTRY, OPEN, SAME, SEND, Script}

-- the term of a slot; past the end a term of no concern
abbrev pub at : List Term → ℕ → Term
at ts i = slice_index_or ts i (name party 0)

-- the parts of a two-part term (of other terms of no concern)
abbrev pub first : Term → Term
first (name k i) = name k i
first (built f a b) = a
first (mate k) = k

abbrev pub second : Term → Term
second (name k i) = name k i
second (built f a b) = b
second (mate k) = k

-- the term of an instruction's slot, by the terms of the slots before it
abbrev pub term_of : List Term → Op → Term
term_of ts (GIVEN t) = t
term_of ts (FRESH t) = t
term_of ts (FROM t) = t
term_of ts (TO t) = t
term_of ts (RECV t) = t
term_of ts (MATE i) = mate_of (at ts i)
term_of ts (LEFT i) = first (at ts i)
term_of ts (RIGHT i) = second (at ts i)
term_of ts (JOIN i j) = built pair (at ts i) (at ts j)
term_of ts (SEAL i j) = built sealed (at ts i) (at ts j)
term_of ts (DIGEST i j) = built digest (at ts i) (at ts j)
term_of ts (ENTRY i j) = built entry (at ts i) (at ts j)
term_of ts (OPEN i j) = first (at ts i)
term_of ts (SAME i j) = at ts i
term_of ts (SEND i j) = at ts i

-- the terms of a script's slots, after those in ts
abbrev pub terms_after : List Term → Script → List Term
terms_after ts [] = ts
terms_after ts (l ∷ s) = terms_after (ts ++ (term_of ts l.op ∷ [])) s

abbrev pub terms_of : Script → List Term
terms_of s = terms_after [] s

abbrev pub Built : Form → Term → Type 0
Built f t = (a : Term) × (b : Term) × (t ≡ built f a b)

-- the operands of an instruction are slots before it, and their terms are such as it asks for
abbrev pub Fit : List Term → Op → Type 0
Fit ts (GIVEN t) = Unit {0}
Fit ts (FRESH t) = Unit {0}
Fit ts (FROM t) = Unit {0}
Fit ts (TO t) = Unit {0}
Fit ts (RECV t) = Unit {0}
Fit ts (MATE i) = (i < length ts) × Key (at ts i)
Fit ts (LEFT i) = (i < length ts) × Built pair (at ts i)
Fit ts (RIGHT i) = (i < length ts) × Built pair (at ts i)
Fit ts (JOIN i j) = (i < length ts) × (j < length ts)
Fit ts (SEAL i j) = (i < length ts) × (j < length ts) × PartsFit sealed (at ts i) (at ts j)
Fit ts (DIGEST i j) = (i < length ts) × (j < length ts) × PartsFit digest (at ts i) (at ts j)
Fit ts (ENTRY i j) = (i < length ts) × (j < length ts) × PartsFit entry (at ts i) (at ts j)
Fit ts (OPEN i j) = (i < length ts) × (j < length ts) × Built sealed (at ts i) × (at ts j ≡ opener (second (at ts i)))
Fit ts (SAME i j) = (i < length ts) × (j < length ts) × (at ts i ≡ at ts j)
Fit ts (SEND i j) = (i < length ts) × (j < length ts)

-- a slot that holds a term stands for it
abbrev pub HoldsIt : Term → Option Term → Type 0
HoldsIt t None = Unit {0}
HoldsIt t (Some u) = u ≡ t

-- every instruction fits, stands for one of the terms, and holds nothing but the term that it stands for
abbrev pub FitsAfter : List Term → List Term → Script → Type 0
FitsAfter terms ts [] = Unit {0}
FitsAfter terms ts (l ∷ s) = Fit ts l.op × HoldsIt (term_of ts l.op) l.holds × In (term_of ts l.op) terms × FitsAfter terms (ts ++ (term_of ts l.op ∷ [])) s

abbrev pub Fits : List Term → Script → Type 0
Fits terms s = FitsAfter terms [] s

-- A term has its place among the terms: a name has an id up to 65,535, and beside a public key stands its mate; the parts of any
-- other term are there, and are such as its form asks for.
abbrev pub InPlace : List Term → Term → Type 0
InPlace ts (name k i) = (i ≤ last_id) × (k ≡ public → In (mate (name k i)) ts)
InPlace ts (built f a b) = In a ts × In b ts × PartsFit f a b
InPlace ts (mate k) = In k ts × Asymmetric k

-- every one of the terms has its place
abbrev pub Settled : List Term → Type 0
Settled ts = (t : Term) → In t ts → InPlace ts t
