-- Walking a term that an instruction brings in: compare what could be composed, take apart the rest.
use Rattle.std.specs.Prelude.{ℕ, length, Some, None, Option}
use Rattle.deduction.specs.Term.{Form, pair, sealed, digest, entry, Term, name, built, mate, opener}
use Rattle.rules.specs.Script.{Op, LEFT, RIGHT, OPEN, SAME, Script, line, ◌then◌}
use Rattle.rules.specs.Compose.{Composed, compose}

-- the instruction's slot n compared with the composed term
abbrev pub compared : ℕ → Composed → Script
compared n c = c.script then line (SAME n c.slot) None

-- a term that can be composed is composed and compared; any other is held by the instruction's slot, and then taken apart
abbrev pub walked : Script → Op → Term → (Script → Script) → Option Composed → Script
walked s op t next None = next (s then line op (Some t))
walked s op t next (Some c) = compared (length s) c

-- the content is walked where the opener can be composed
abbrev pub unlocked : Script → Option Composed → (Script → ℕ → Script) → Script
unlocked s None next = s
unlocked s (Some o) next = next o.script o.slot

-- what follows for a term at slot n that was not composed, given how its parts a and b are walked: both halves of a pair, the
-- content of a sealed term, nothing of any other
abbrev pub apart : Form → ℕ → Term → (Script → Op → Script) → (Script → Op → Script) → Script → Script
apart pair n b walk_a walkB s = walkB (walk_a s (LEFT n)) (RIGHT n)
apart sealed n k walkC walkK s = unlocked s (compose s (opener k)) (λ s1 o. walkC s1 (OPEN n o))
apart digest n b walk_a walkB s = s
apart entry n b walk_a walkB s = s

-- the script after the instruction op brought the term in
abbrev pub walk : Script → Op → Term → Script
walk s op (name k i) = walked s op (name k i) (λ s1. s1) (compose (s then line op None) (name k i))
walk s op (built f a b) =
    walked s op (built f a b) (apart f (length s) b (λ s1 o. walk s1 o a) (λ s1 o. walk s1 o b)) (compose (s then line op None) (built f a b))
walk s op (mate k) = walked s op (mate k) (λ s1. s1) (compose (s then line op None) (mate k))
