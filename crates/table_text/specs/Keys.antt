-- A key is a name or an entry of a table, and then ticks.
use Rattle.std.specs.Prelude.{◌≡◌, ℕ, zero, suc, List, [], ◌∷◌, Result}
use Rattle.scan.specs.declared.byte.Shape.TheVariants.{Square}
use Rattle.rules.specs.State.{State}
use Rattle.syntax.specs.declared.sign.Sign.TheVariants.{Opens}
use Rattle.syntax.specs.Grammar.{Tok, sign, tick, Key, named, entry, mate}
use Rattle.protocol.specs.declared.refusal.Refusal.{Refusal}
use Rattle.table_text.specs.Calls.{Is, Then, Builds, MATE}

-- it has no ticks
abbrev pub IsTickless : Key → Type 0
IsTickless (named n) = Unit {0}
IsTickless (entry t a) = Unit {0}
IsTickless (mate k) = ⊥

-- no entry goes on with these
abbrev pub NoSquare : List Tok → Type 0
NoSquare [] = ⊥
NoSquare (t ∷ ts) = sign t ≡ Opens Square → ⊥

-- so many ticks, before ts
abbrev pub ticks : ℕ → List Tok → List Tok
ticks zero ts = ts
ticks (suc n) ts = tick ∷ ticks n ts

-- the mate of a, and the mate of that, as often as there are ticks
abbrev pub Mated : ℕ → ℕ → State → Result ℕ Refusal → State → Type 0
Mated zero a = Is a
Mated (suc n) a = Then (Builds MATE a 0) (λ b. Mated n b)
