-- What is wrong with a name.
use Rattle.std.specs.Prelude.{◌≡◌, ℕ, Bool, true, false, ◌||◌, if◌then◌else◌, List, [], ◌∷◌, ◌++◌, Some, None, Option, Ok, Err, Result}
use Rattle.std.specs.Str.{bytes_eq}
use Rattle.terms.specs.declared.node.Kind.{Kind}
use Rattle.terms.specs.declared.node.Kind.TheVariants.{Party, Number, Shared, Public, Table, Function}
use Rattle.names.specs.declared.names.Named.{Named}
use Rattle.names.specs.Names.{look_up}
use Rattle.syntax.specs.declared.mode.NameUse.{NameUse}
use Rattle.syntax.specs.declared.mode.NameUse.TheVariants.{Declared, Agent, Part}
use Rattle.syntax.specs.declared.machine.TokenFault.{TokenFault}
use Rattle.syntax.specs.declared.machine.TokenFault.TheVariants as tokens
use Rattle.syntax.specs.Grammar.{Tok, name, keyword, opens, closes, tick, end, stray}
use Rattle.syntax.specs.Uses.{use_after}
use Rattle.line_check.specs.declared.fault.LineFault.{LineFault}
use Rattle.line_check.specs.declared.fault.LineFault.TheVariants.{Outside, Undeclared, DeclaredTwice, TooDeep}

abbrev pub fault_number : LineFault → ℕ
fault_number Outside = 16
fault_number Undeclared = 17
fault_number DeclaredTwice = 18
fault_number TooDeep = 19

abbrev pub of_token : TokenFault → LineFault
of_token tokens.Outside = Outside
of_token tokens.TooDeep = TooDeep

-- the token is the word as a name
abbrev pub is_name_of : Tok → List ℕ → Bool
is_name_of (name v) w = bytes_eq v w
is_name_of (keyword k) w = false
is_name_of (opens s) w = false
is_name_of (closes s) w = false
is_name_of tick w = false
is_name_of end w = false
is_name_of stray w = false

-- one of these tokens is
abbrev pub is_earlier : List Tok → List ℕ → Bool
is_earlier [] w = false
is_earlier (t ∷ ts) w = is_name_of t w || is_earlier ts w

-- whether it counts for a use of a name that the name stands earlier in its line
abbrev pub is_again : NameUse → Bool → Bool
is_again Declared earlier = earlier
is_again Agent earlier = false
is_again Part earlier = false

abbrev pub is_party : Kind → Bool
is_party Party = true
is_party Number = false
is_party Shared = false
is_party Public = false
is_party Table = false
is_party Function = false

-- of a name that is declared: that it was declared before, in an earlier line or in this one
abbrev pub declared_fault : Option Named → Bool → Option LineFault
declared_fault None earlier = if earlier then Some DeclaredTwice else None
declared_fault (Some n) earlier = Some DeclaredTwice

-- of an agent: that it was not declared as a party
abbrev pub agent_fault : Option Named → Option LineFault
agent_fault None = Some Undeclared
agent_fault (Some n) = if is_party n.kind then None else Some Undeclared

-- of a part of a term: that it was not declared
abbrev pub part_fault : Option Named → Option LineFault
part_fault None = Some Undeclared
part_fault (Some n) = None

-- by its use, by what it was declared as in earlier lines, and by whether it stands earlier in this line
abbrev pub name_fault : NameUse → Option Named → Bool → Option LineFault
name_fault Declared known earlier = declared_fault known earlier
name_fault Agent known earlier = agent_fault known
name_fault Part known earlier = part_fault known

-- what is wrong with the name t after the tokens ts of its line, with the names ds declared before; nothing, if t is no name
abbrev pub fault_after : List (List ℕ × Named) → List Tok → Tok → Option LineFault
fault_after ds ts (name w) = name_fault (use_after ts) (look_up ds w) (is_earlier ts w)
fault_after ds ts (keyword k) = None
fault_after ds ts (opens s) = None
fault_after ds ts (closes s) = None
fault_after ds ts tick = None
fault_after ds ts end = None
fault_after ds ts stray = None

-- what is wrong with a token, by what its grammar and its name have wrong
abbrev pub first_fault : Result (Unit {0}) TokenFault → Option LineFault → Option LineFault
first_fault (Ok x) named = named
first_fault (Err f) named = Some (of_token f)

-- nothing is wrong with any of the tokens ts, which follow others in their line
abbrev pub Faultless : List (List ℕ × Named) → List Tok → List Tok → Type 0
Faultless ds before [] = Unit {0}
Faultless ds before (t ∷ ts) = (fault_after ds before t ≡ None) × Faultless ds (before ++ t ∷ []) ts
