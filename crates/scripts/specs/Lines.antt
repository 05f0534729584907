-- Lines of scripts by number, and what the rules see in them.
use Rattle.std.specs.Prelude.{ℕ, ◌+◌, Bool, false, cond, List, [], ◌∷◌, Some, None, Option, ◌==◌}
use Rattle.deduction.specs.Term.{Term}
use Rattle.terms.specs.declared.node.Form.{Form}
use Rattle.terms.specs.declared.node.Form.TheVariants.{Pair, Sealed, Digest as A-DIGEST, Entry as AN-ENTRY}
use Rattle.rules.specs.Script.{Op, GIVEN, FRESH, FROM, TO, RECV, MATE, LEFT, RIGHT, JOIN, SEAL, DIGEST, ENTRY, OPEN, SAME, SEND, Line as RuleLine, Script as RuleScript}
use Rattle.scripts.specs.declared.instruction.Instruction.{Instruction}
use Rattle.scripts.specs.declared.instruction.Instruction.TheVariants.{Given, Fresh, From, To, Recv, Mate, Left, Right, Join, Seal, Digest, Entry, Open, Same, Send}
use Rattle.scripts.specs.declared.instruction.Line.{Line}

-- the instruction that builds a form from the slots of its parts
abbrev pub building : Form → ℕ → ℕ → Instruction
building Pair i j = Join i j
building Sealed i j = Seal i j
building A-DIGEST i j = Digest i j
building AN-ENTRY i j = Entry i j

abbrev pub is_number : ℕ → Option ℕ → Bool
is_number t None = false
is_number t (Some u) = u == t

-- the lowest slot that holds the term number, slots counted from n
abbrev pub slot_of : ℕ → List Line → ℕ → Option ℕ
slot_of n [] t = None
slot_of n (l ∷ ls) t = cond (is_number t l.holds) (Some n) (slot_of (n + 1) ls t)

-- the instruction as the rules have it, where T says what term a number stands for
abbrev pub op_of : (ℕ → Term) → Instruction → Op
op_of T (Given t) = GIVEN (T t)
op_of T (Fresh t) = FRESH (T t)
op_of T (From t) = FROM (T t)
op_of T (To t) = TO (T t)
op_of T (Recv t) = RECV (T t)
op_of T (Mate i) = MATE i
op_of T (Left i) = LEFT i
op_of T (Right i) = RIGHT i
op_of T (Join i j) = JOIN i j
op_of T (Seal i j) = SEAL i j
op_of T (Digest i j) = DIGEST i j
op_of T (Entry i j) = ENTRY i j
op_of T (Open i j) = OPEN i j
op_of T (Same i j) = SAME i j
op_of T (Send i j) = SEND i j

abbrev pub held_of : (ℕ → Term) → Option ℕ → Option Term
held_of T None = None
held_of T (Some t) = Some (T t)

abbrev pub line_of : (ℕ → Term) → Line → RuleLine
line_of T l = record { op = op_of T l.op; holds = held_of T l.holds }

-- the script as the rules have it
abbrev pub script_of : (ℕ → Term) → List Line → RuleScript
script_of T [] = []
script_of T (l ∷ ls) = line_of T l ∷ script_of T ls
