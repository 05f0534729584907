-- What terms, scripts and steps stand for together: a state of the rules.
use Rattle.std.specs.Prelude.{ℕ, zero, suc, ◌+◌, Bool, true, ◌&&◌, List, [], ◌∷◌, map, length, Some, None, Option, nat_lt}
use Rattle.deduction.specs.Term.{Term}
use Rattle.terms.specs.declared.node.TermNode.{TermNode}
use Rattle.terms.specs.Tree.{tree}
use Rattle.scripts.specs.declared.instruction.Instruction.{Instruction}
use Rattle.scripts.specs.declared.instruction.Instruction.TheVariants.{Given, Fresh, From, To, Recv, Mate, Left, Right, Join, Seal, Digest, Entry, Open, Same, Send}
use Rattle.scripts.specs.declared.instruction.Line.{Line}
use Rattle.scripts.specs.Lines.{script_of}
use Rattle.rules.specs.State.{State, Step as RuleStep}
use Rattle.protocol.specs.declared.step.Step.{Step}

-- the trees of k numbers from n on
abbrev pub trees_from : List TermNode → ℕ → ℕ → List Term
trees_from ts n zero = []
trees_from ts n (suc k) = tree ts n ∷ trees_from ts (n + 1) k

-- the trees of all numbers, in order
unfoldable pub trees : List TermNode → List Term
trees ts = trees_from ts 0 (length ts)

-- a step with its message as a tree
abbrev pub step_of : (ℕ → Term) → Step → RuleStep
step_of T s = record {
  sender = s.sender;
  receiver = s.receiver;
  message = T s.message;
  sent = s.sent;
  received = s.received;
  heard = s.heard;
}

-- the state of the rules, from the records of terms, the lines of scripts and the steps
abbrev pub state_by : List TermNode → List (List Line) → List Step → State
state_by ts ps ss = record { terms = trees ts; scripts = map (script_of (tree ts)) ps; steps = map (step_of (tree ts)) ss }

-- every number that stands in scripts and steps is the number of a term, the first n numbers being those of terms
abbrev pub holds_known : ℕ → Option ℕ → Bool
holds_known n None = true
holds_known n (Some t) = nat_lt t n

abbrev pub op_known : ℕ → Instruction → Bool
op_known n (Given t) = nat_lt t n
op_known n (Fresh t) = nat_lt t n
op_known n (From t) = nat_lt t n
op_known n (To t) = nat_lt t n
op_known n (Recv t) = nat_lt t n
op_known n (Mate i) = true
op_known n (Left i) = true
op_known n (Right i) = true
op_known n (Join i j) = true
op_known n (Seal i j) = true
op_known n (Digest i j) = true
op_known n (Entry i j) = true
op_known n (Open i j) = true
op_known n (Same i j) = true
op_known n (Send i j) = true

abbrev pub lines_known : ℕ → List Line → Bool
lines_known n [] = true
lines_known n (l ∷ ls) = (holds_known n l.holds && op_known n l.op) && lines_known n ls

abbrev pub scripts_known : ℕ → List (List Line) → Bool
scripts_known n [] = true
scripts_known n (ls ∷ ps) = lines_known n ls && scripts_known n ps

abbrev pub steps_known : ℕ → List Step → Bool
steps_known n [] = true
steps_known n (s ∷ ss) = nat_lt s.message n && steps_known n ss

abbrev pub are_all_known : List TermNode → List (List Line) → List Step → Bool
are_all_known ts ps ss = scripts_known (length ts) ps && steps_known (length ts) ss
