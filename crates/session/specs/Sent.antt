-- What a sender's part sends.
use Rattle.std.specs.Prelude.{ℕ, ◌-◌, List, Some, None, Option, slice_index}
use Rattle.rules.specs.State.{nth}
use Rattle.scripts.specs.declared.instruction.Instruction.{Instruction}
use Rattle.scripts.specs.declared.instruction.Instruction.TheVariants.{Given, Fresh, From, To, Recv, Mate, Left, Right, Join, Seal, Digest, Entry, Open, Same, Send}
use Rattle.scripts.specs.declared.instruction.Line.{Line}

-- the handles of the message and the address that an instruction sends; 0 and 0 where it is no SEND
abbrev pub op_sends : List ℕ → Instruction → ℕ × ℕ
op_sends slots (Given t) = (0, 0)
op_sends slots (Fresh t) = (0, 0)
op_sends slots (From t) = (0, 0)
op_sends slots (To t) = (0, 0)
op_sends slots (Recv t) = (0, 0)
op_sends slots (Mate a) = (0, 0)
op_sends slots (Left a) = (0, 0)
op_sends slots (Right a) = (0, 0)
op_sends slots (Join a b) = (0, 0)
op_sends slots (Seal a b) = (0, 0)
op_sends slots (Digest a b) = (0, 0)
op_sends slots (Entry a b) = (0, 0)
op_sends slots (Open a b) = (0, 0)
op_sends slots (Same a b) = (0, 0)
op_sends slots (Send m a) = (slice_index slots m, slice_index slots a)

-- 0 and 0 also where there is no instruction
abbrev pub line_sends : List ℕ → Option Line → ℕ × ℕ
line_sends slots None = (0, 0)
line_sends slots (Some l) = op_sends slots l.op

-- what the part of a script that ends at `end` sends by its last instruction
abbrev pub sent_by : List Line → ℕ → List ℕ → ℕ × ℕ
sent_by ls end slots = line_sends slots (nth ls (end - 1))
