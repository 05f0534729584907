-- Brackets open at once.
use Rattle.std.specs.Prelude.{ℕ, ◌+◌, ◌-◌, ◌≤◌, List, [], ◌∷◌}
use Rattle.syntax.specs.Grammar.{Tok, name, keyword, opens, closes, tick, end, stray}

-- with n open before a token, so many are open after it
abbrev pub level : ℕ → Tok → ℕ
level n (name w) = n
level n (keyword k) = n
level n (opens s) = n + 1
level n (closes s) = n - 1
level n tick = n
level n end = n
level n stray = n

abbrev pub opened : ℕ → List Tok → ℕ
opened n [] = n
opened n (t ∷ ts) = opened (level n t) ts

-- never more than 64
abbrev pub Shallow : ℕ → List Tok → Type 0
Shallow n [] = Unit {0}
Shallow n (t ∷ ts) = (level n t ≤ 64) × Shallow (level n t) ts
