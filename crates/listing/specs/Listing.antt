-- The text of a script, and what listing it answers and writes.
use Rattle.std.specs.Prelude.{◌≡◌, ℕ, ◌+◌, ◌<◌, ◌≤◌, List, [], ◌∷◌, ◌++◌, length, drop, Some, None, Ok, Err, Option, Result, codes, decimal}
use Rattle.rules.specs.State.{nth}
use Rattle.scripts.specs.declared.instruction.Instruction.{Instruction}
use Rattle.scripts.specs.declared.instruction.Instruction.TheVariants.{Given, Fresh, From, To, Recv, Mate, Left, Right, Join, Seal, Digest, Entry, Open, Same, Send}
use Rattle.scripts.specs.declared.instruction.Line.{Line}
use Rattle.listing.specs.declared.refusal.ListingError.{ListingError}
use Rattle.listing.specs.declared.refusal.ListingError.TheVariants.{Unknown, Short}

-- a space and a number
abbrev pub spaced : ℕ → List ℕ
spaced n = 32 ∷ decimal n

-- the word of an instruction
abbrev pub word_of : Instruction → List ℕ
word_of (Given t) = codes "GIVEN"
word_of (Fresh t) = codes "FRESH"
word_of (From t) = codes "FROM"
word_of (To t) = codes "TO"
word_of (Recv t) = codes "RECV"
word_of (Mate i) = codes "MATE"
word_of (Left i) = codes "LEFT"
word_of (Right i) = codes "RIGHT"
word_of (Join i j) = codes "JOIN"
word_of (Seal i j) = codes "SEAL"
word_of (Digest i j) = codes "DIGEST"
word_of (Entry i j) = codes "ENTRY"
word_of (Open i j) = codes "OPEN"
word_of (Same i j) = codes "SAME"
word_of (Send i j) = codes "SEND"

-- its first operand, and the second if it has two
abbrev pub operands_of : Instruction → ℕ × Option ℕ
operands_of (Given t) = (t, None)
operands_of (Fresh t) = (t, None)
operands_of (From t) = (t, None)
operands_of (To t) = (t, None)
operands_of (Recv t) = (t, None)
operands_of (Mate i) = (i, None)
operands_of (Left i) = (i, None)
operands_of (Right i) = (i, None)
operands_of (Join i j) = (i, Some j)
operands_of (Seal i j) = (i, Some j)
operands_of (Digest i j) = (i, Some j)
operands_of (Entry i j) = (i, Some j)
operands_of (Open i j) = (i, Some j)
operands_of (Same i j) = (i, Some j)
operands_of (Send i j) = (i, Some j)

-- the second operand, where there is one
abbrev pub spaced_if : Option ℕ → List ℕ
spaced_if None = []
spaced_if (Some n) = spaced n

-- the operands of an instruction, each after a space
abbrev pub spaced_operands : Instruction → List ℕ
spaced_operands op = spaced (operands_of op).0 ++ spaced_if (operands_of op).1

-- a line: the agent, the number of the instruction, its word, its operands
unfoldable pub line_of : ℕ → ℕ → Instruction → List ℕ
line_of agent number op = decimal agent ++ spaced number ++ 32 ∷ [] ++ word_of op ++ spaced_operands op ++ 10 ∷ []

-- the lines of instructions that are numbered from a number on
abbrev pub lines_from : ℕ → ℕ → List Line → List ℕ
lines_from agent n [] = []
lines_from agent n (l ∷ ls) = line_of agent n l.op ++ lines_from agent (n + 1) ls

-- the listing of an agent's script
abbrev pub listing_of : ℕ → List Line → List ℕ
listing_of agent ls = lines_from agent 0 ls

-- Listing, whole: the text stands at the front of the output and the rest is as it was; or there is no such agent, or else the text is
-- longer than the output, and nothing is written.
abbrev pub Lists : List (List Line) → ℕ → List ℕ → Result ℕ ListingError → List ℕ → Type 0
Lists ps p old (Ok n) new =
    (ls : List Line) × (nth ps p ≡ Some ls) × (n ≡ length (listing_of p ls)) × (n ≤ length old) × (new ≡ listing_of p ls ++ drop n old)
Lists ps p old (Err Unknown) new = (length ps ≤ p) × (new ≡ old)
Lists ps p old (Err Short) new = (ls : List Line) × (nth ps p ≡ Some ls) × (length old < length (listing_of p ls)) × (new ≡ old)
