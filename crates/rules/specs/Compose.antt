-- Composing a term: the slot that holds it, or its parts in order and the instruction that puts them together.
use Rattle.std.specs.Prelude.{ℕ, Bool, length, is_some, Some, None, Option}
use Rattle.deduction.specs.Term.{Form, Term, name, built, mate}
use Rattle.rules.specs.Script.{Script, line, ◌then◌, find, builder}

-- a slot, and the script in which it stands
pub record Composed : Type 0 where
  pub slot : ℕ
  pub script : Script

abbrev pub composed_at : ℕ → Script → Composed
composed_at n s = record { slot = n; script = s }

-- a name or a mate is composed only where a slot holds it
abbrev pub leaf : Script → Option ℕ → Option Composed
leaf s None = None
leaf s (Some n) = Some (composed_at n s)

-- the whole, after its second part
abbrev pub whole : Form → Term → ℕ → Option Composed → Option Composed
whole f t i None = None
whole f t i (Some b) = Some (composed_at (length b.script) (b.script then line (builder f i b.slot) (Some t)))

-- the second part after the first, and then the whole
abbrev pub both : Form → Term → Option Composed → (Script → Option Composed) → Option Composed
both f t None next = None
both f t (Some a) next = whole f t a.slot (next a.script)

abbrev pub or_both : Script → Option ℕ → Option Composed → Option Composed
or_both s None made = made
or_both s (Some n) made = Some (composed_at n s)

-- the slot of the term and the script after composing it; None where it cannot be composed
abbrev pub compose : Script → Term → Option Composed
compose s (name k i) = leaf s (find s (name k i))
compose s (built f a b) = or_both s (find s (built f a b)) (both f (built f a b) (compose s a) (λ s1. compose s1 b))
compose s (mate k) = leaf s (find s (mate k))

-- the term can be composed
abbrev pub composes : Script → Term → Bool
composes s t = is_some (compose s t)

abbrev pub or_else : {A : Type 0} → Option A → Option A → Option A
or_else None o = o
or_else (Some a) o = Some a

abbrev pub unless_found : Option ℕ → Option Term → Option Term
unless_found None m = m
unless_found (Some n) m = None

-- the first name or mate that no slot holds, parts in order; None where the term can be composed
abbrev pub missing : Script → Term → Option Term
missing s (name k i) = unless_found (find s (name k i)) (Some (name k i))
missing s (built f a b) = unless_found (find s (built f a b)) (or_else (missing s a) (missing s b))
missing s (mate k) = unless_found (find s (mate k)) (Some (mate k))
