-- Which numbers the instructions of a script give.
use Rattle.std.specs.Prelude.{ℕ, Bool, false, ◌||◌, List, [], ◌∷◌, ◌==◌}
use Rattle.scripts.specs.declared.instruction.Instruction.{Instruction}
use Rattle.scripts.specs.declared.instruction.Instruction.TheVariants.{Given, Fresh, From, To, Recv, Mate, Left, Right, Join, Seal, Digest, Entry, Open, Same, Send}
use Rattle.scripts.specs.declared.instruction.Line.{Line}

-- the instruction is the GIVEN of the number
abbrev pub gives : ℕ → Instruction → Bool
gives t (Given u) = u == t
gives t (Fresh u) = false
gives t (From u) = false
gives t (To u) = false
gives t (Recv u) = false
gives t (Mate i) = false
gives t (Left i) = false
gives t (Right i) = false
gives t (Join i j) = false
gives t (Seal i j) = false
gives t (Digest i j) = false
gives t (Entry i j) = false
gives t (Open i j) = false
gives t (Same i j) = false
gives t (Send i j) = false

-- some instruction is a GIVEN of the number
abbrev pub given_in : ℕ → List Line → Bool
given_in t [] = false
given_in t (l ∷ ls) = gives t l.op || given_in t ls
