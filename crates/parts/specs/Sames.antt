-- How many comparisons scripts hold.
use Rattle.std.specs.Prelude.{ℕ, ◌+◌, List, [], ◌∷◌}
use Rattle.rules.specs.Script.{Op, GIVEN, FRESH, FROM, TO, RECV, MATE, LEFT, RIGHT, JOIN, SEAL, DIGEST, ENTRY, OPEN, SAME, SEND, Script}
use Rattle.rules.specs.State.{State}

-- 1 for a comparison, 0 for any other instruction
abbrev pub is_same : Op → ℕ
is_same (GIVEN t) = 0
is_same (FRESH t) = 0
is_same (FROM t) = 0
is_same (TO t) = 0
is_same (RECV t) = 0
is_same (MATE i) = 0
is_same (LEFT i) = 0
is_same (RIGHT i) = 0
is_same (JOIN i j) = 0
is_same (SEAL i j) = 0
is_same (DIGEST i j) = 0
is_same (ENTRY i j) = 0
is_same (OPEN i j) = 0
is_same (SAME i j) = 1
is_same (SEND i j) = 0

-- the comparisons of a script
abbrev pub sames : Script → ℕ
sames [] = 0
sames (l ∷ s) = is_same l.op + sames s

-- the comparisons of scripts in all
abbrev pub sames_in : List Script → ℕ
sames_in [] = 0
sames_in (s ∷ ss) = sames s + sames_in ss

-- the scripts without the first, which is the listener's
abbrev pub party_scripts : List Script → List Script
party_scripts [] = []
party_scripts (s ∷ ss) = ss

-- the comparisons of all parties' scripts
abbrev pub sames_of : State → ℕ
sames_of st = sames_in (party_scripts st.scripts)
