-- Declared names.
use Rattle.std.specs.Prelude.{◌≡◌, ℕ, ◌+◌, Bool, true, false, ◌==◌, if◌then◌else◌, List, [], ◌∷◌, map, Some, None, Option}
use Rattle.std.specs.Borrow.{Bor}
use Rattle.std.specs.Str.{bytes_eq}
use Rattle.bounded.specs.Items.{items}
use Rattle.terms.specs.declared.node.Kind.{Kind}
use Rattle.terms.specs.declared.node.Kind.TheVariants.{Party, Number, Shared, Public, Table, Function}
use Rattle.names.specs.declared.names.Named.{Named}
use Rattle.names.specs.declared.names.Declared.{Declared}
use Rattle.names.specs.declared.names.Names.{Names}

-- a declared name's bytes, and what it was declared as
abbrev pub entry : Declared → List ℕ × Named
entry d = (d.word.now, d.named)

-- the names in the order in which they were declared
abbrev pub known : Names → List (List ℕ × Named)
known names = map entry (items names.list)

-- the first under a word
abbrev pub look_up : List (List ℕ × Named) → List ℕ → Option Named
look_up [] w = None
look_up (d ∷ ds) w = if bytes_eq d.0 w then Some d.1 else look_up ds w

abbrev pub is_party : Kind → Bool
is_party Party = true
is_party Number = false
is_party Shared = false
is_party Public = false
is_party Table = false
is_party Function = false

-- the agent of a party's name, where n is that of the first party of the list
abbrev pub agent_from : ℕ → List (List ℕ × Named) → List ℕ → Option ℕ
agent_from n [] w = None
agent_from n (d ∷ ds) w = if is_party d.1.kind then (if bytes_eq d.0 w then Some n else agent_from (n + 1) ds w) else agent_from n ds w

-- the first word under a term's number
abbrev pub word_of : List (List ℕ × Named) → ℕ → Option (List ℕ)
word_of [] t = None
word_of (d ∷ ds) t = if d.1.term == t then Some d.0 else word_of ds t

abbrev pub WordOf : List (List ℕ × Named) → ℕ → Option (Bor (List ℕ)) → Type 0
WordOf ds t None = word_of ds t ≡ None
WordOf ds t (Some w) = word_of ds t ≡ Some w.now
