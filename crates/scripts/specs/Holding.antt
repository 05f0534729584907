-- Which slots hold a term number.
use Rattle.std.specs.Prelude.{◌≡◌, ℕ, ◌<◌, false, List, None, slice_index_or}
use Rattle.scripts.specs.Lines.{is_number}
use Rattle.scripts.specs.declared.instruction.Instruction.TheVariants.{Given}
use Rattle.scripts.specs.declared.instruction.Line.{Line}

-- what an unused place holds
abbrev pub no_line : Line
no_line = record { op = Given 0; holds = None }

-- no slot below n holds the term
abbrev pub NoneBelow : List Line → ℕ → ℕ → Type 0
NoneBelow ls n t = (k : ℕ) → k < n → is_number t (slice_index_or ls k no_line).holds ≡ false
