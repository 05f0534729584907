-- Classes of bytes.
use Rattle.std.specs.Prelude.{◌≡◌, ℕ, ◌<◌, ◌≤◌, ◌==◌, if◌then◌else◌, List, slice_index}
use Rattle.std.specs.Char.{is_ascii_alphanumeric}
use Rattle.scan.specs.declared.byte.Shape.TheVariants.{Round, Curly, Square, Angle}
use Rattle.scan.specs.declared.byte.Bracket.TheVariants.{Opens, Closes}
use Rattle.scan.specs.declared.byte.ByteClass.{ByteClass}
use Rattle.scan.specs.declared.byte.ByteClass.TheVariants.{Space, LineEnd, Tick, Bracket, Word, Stray}

-- 32 is a space, 10 ends a line, 39 is a tick; the rest are brackets, letters and digits, and bytes of no use
abbrev pub class : ℕ → ByteClass
class b =
    if b == 32 then Space
    else if b == 10 then LineEnd
    else if b == 39 then Tick
    else if b == 40 then Bracket (Opens Round)
    else if b == 41 then Bracket (Closes Round)
    else if b == 123 then Bracket (Opens Curly)
    else if b == 125 then Bracket (Closes Curly)
    else if b == 91 then Bracket (Opens Square)
    else if b == 93 then Bracket (Closes Square)
    else if b == 60 then Bracket (Opens Angle)
    else if b == 62 then Bracket (Closes Angle)
    else if is_ascii_alphanumeric b then Word
    else Stray

-- the bytes from p to before q are of one class
abbrev pub AllOf : ByteClass → List ℕ → ℕ → ℕ → Type 0
AllOf k text p q = (i : ℕ) → p ≤ i → i < q → class (slice_index text i) ≡ k
