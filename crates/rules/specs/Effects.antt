-- What initial knowledge and a step write into scripts.
use Rattle.std.specs.Prelude.{ℕ, cond, List, [], ◌∷◌, length, Some, None, Option}
use Rattle.deduction.specs.Term.{Kind, party, number, shared, public, table, function, Term, name, built, mate}
use Rattle.rules.specs.Script.{Op, GIVEN, FRESH, FROM, TO, RECV, MATE, SEND, Script, line, ◌then◌}
use Rattle.rules.specs.Compose.{Composed, compose, composes}
use Rattle.rules.specs.Saturate.{saturate}
use Rattle.rules.specs.Walk.{walk, compared}

-- initial knowledge: nothing if it can be composed
abbrev pub knows : Script → Term → Script
knows s t = cond (composes s t) s (saturate (s then line (GIVEN t) (Some t)))

-- a fresh public key is followed by its mate
abbrev pub fresh_mate : Script → Term → Kind → Script
fresh_mate s t party = s then line (FRESH t) (Some t)
fresh_mate s t number = s then line (FRESH t) (Some t)
fresh_mate s t shared = s then line (FRESH t) (Some t)
fresh_mate s t public = (s then line (FRESH t) (Some t)) then line (MATE (length s)) (Some (mate t))
fresh_mate s t table = s then line (FRESH t) (Some t)
fresh_mate s t function = s then line (FRESH t) (Some t)

-- one fresh name
abbrev pub freshen : Script → Term → Script
freshen s (name k i) = fresh_mate s (name k i) k
freshen s (built f a b) = s then line (FRESH (built f a b)) (Some (built f a b))
freshen s (mate k) = s then line (FRESH (mate k)) (Some (mate k))

-- the fresh names of a message, in order
abbrev pub freshens : Script → List Term → Script
freshens s [] = s
freshens s (t ∷ ts) = freshens (freshen s t) ts

-- the message composed, and sent to the address
abbrev pub sends : ℕ → Option Composed → Option Script
sends address None = None
sends address (Some c) = Some (c.script then line (SEND c.slot address) None)

-- a sender's script after a step: its fresh names, the message, SEND; None where the message cannot be composed
abbrev pub sent : Script → List Term → Term → ℕ → Option Script
sent s fresh m address = sends address (compose (freshens s fresh) m)

-- the sender's name is compared if it is known, else held
abbrev pub heard_from : Script → Term → Option Composed → Script
heard_from s who None = s then line (FROM who) (Some who)
heard_from s who (Some c) = compared (length s) c

-- a receiver's script after a step: who sent, the message walked, then saturated
abbrev pub received : Script → Term → Term → Script
received s who m = saturate (walk (heard_from s who (compose (s then line (FROM who) None) who)) (RECV m) m)

-- what the listener could not compose it holds
abbrev pub overhears : Script → Op → Term → Script
overhears s op t = cond (composes s t) s (s then line op (Some t))

-- the listener's script after a step: both names and the message, then saturated
abbrev pub overheard : Script → Term → Term → Term → Script
overheard s from to m = saturate (overhears (overhears (overhears s (FROM from) from) (TO to) to) (RECV m) m)
