-- What terms begin with.
use Rattle.std.specs.Prelude.{◌≡◌, Some, None, Option}
use Rattle.scan.specs.declared.byte.Shape.TheVariants.{Round, Curly, Square, Angle}
use Rattle.syntax.specs.Grammar.{Tok, name, keyword, opens, closes, tick, end, stray}
use Rattle.syntax.specs.Words.{of_word}
use Rattle.table_text.specs.declared.term.Opening.{Opening}
use Rattle.table_text.specs.declared.term.Opening.TheVariants.{Tuple, Sealed, Name}

-- a term begins with the token
abbrev pub IsFirst : Tok → Type 0
IsFirst (name w) = Unit {0}
IsFirst (keyword k) = ⊥
IsFirst (opens Round) = Unit {0}
IsFirst (opens Curly) = Unit {0}
IsFirst (opens Square) = ⊥
IsFirst (opens Angle) = ⊥
IsFirst (closes s) = ⊥
IsFirst tick = ⊥
IsFirst end = ⊥
IsFirst stray = ⊥

-- what the term is that begins with the token; a word is read as a name
abbrev pub Opened : Option Opening → Tok → Type 0
Opened (Some Tuple) x = x ≡ opens Round
Opened (Some Sealed) x = x ≡ opens Curly
Opened (Some (Name w)) x = x ≡ of_word w.now
Opened None x = IsFirst x → ⊥
