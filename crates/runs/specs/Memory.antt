-- The memory that a run needs: a reading for every term, and the parties' slots in a row by number.
use Rattle.std.specs.Prelude.{ℕ, zero, suc, ◌+◌, ◌≤◌, Bool, ◌&&◌, List, [], length, nat_le, slice_index_or}
use Rattle.terms.specs.declared.node.TermNode.{TermNode}
use Rattle.scripts.specs.declared.instruction.Line.{Line}

-- the lines of an agent's script; of one that is not there, none
abbrev pub lines_at : List (List Line) → ℕ → List Line
lines_at ps p = slice_index_or ps p []

-- how many slots an agent has in a run: a party as many as its script has instructions, the listener none
abbrev pub own_slots : List (List Line) → ℕ → ℕ
own_slots ps zero = 0
own_slots ps (suc p) = length (lines_at ps (suc p))

-- where a party's slots begin: after those of the parties before it
abbrev pub base_of : List (List Line) → ℕ → ℕ
base_of ps zero = 0
base_of ps (suc p) = base_of ps p + own_slots ps p

-- a reading for every term, and a slot for every instruction of the parties
abbrev pub Enough : List TermNode → List (List Line) → List ℕ → List ℕ → Type 0
Enough ts ps readings slots = (length ts ≤ length readings) × (base_of ps (length ps) ≤ length slots)

abbrev pub enough : List TermNode → List (List Line) → List ℕ → List ℕ → Bool
enough ts ps readings slots = nat_le (length ts) (length readings) && nat_le (base_of ps (length ps)) (length slots)
