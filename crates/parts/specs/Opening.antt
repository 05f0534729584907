-- What precedes a party's first step, told from its script alone.
use Rattle.std.specs.Prelude.{ℕ, ◌+◌, cond, [], ◌∷◌, ◌==◌}
use Rattle.rules.specs.Script.{Op, GIVEN, FRESH, FROM, TO, RECV, MATE, LEFT, RIGHT, JOIN, SEAL, DIGEST, ENTRY, OPEN, SAME, SEND, Script}

-- what is built belongs to the opening only if something later there needs it
abbrev pub built_before : ℕ → ℕ
built_before n = cond (n == 0) 0 (n + 1)

-- how long the opening is with one instruction more in front, where n is how long it is without
abbrev pub opens : Op → ℕ → ℕ
opens (GIVEN t) n = n + 1
opens (FRESH t) n = 0
opens (FROM t) n = 0
opens (TO t) n = 0
opens (RECV t) n = 0
opens (MATE i) n = 0
opens (LEFT i) n = n + 1
opens (RIGHT i) n = n + 1
opens (JOIN i j) n = built_before n
opens (SEAL i j) n = built_before n
opens (DIGEST i j) n = built_before n
opens (ENTRY i j) n = built_before n
opens (OPEN i j) n = n + 1
opens (SAME i j) n = 0
opens (SEND i j) n = 0

-- how many instructions the opening has: what is given, taken from it and built to open it, up to the last that is not built
abbrev pub opening : Script → ℕ
opening [] = 0
opening (l ∷ s) = opens l.op (opening s)
