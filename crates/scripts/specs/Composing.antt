-- What composing a term does to a script, by the rules.
use Rattle.std.specs.Prelude.{◌≡◌, ℕ, ◌<◌, Bool, false, List, [], ◌∷◌, ◌++◌, length, is_some, Some, None, Ok, Err, Option, Result, ◌≢◌, slice_index_or}
use Rattle.terms.specs.declared.node.TermNode.{TermNode}
use Rattle.terms.specs.declared.node.TermNode.TheVariants.{Built}
use Rattle.terms.specs.declared.node.Form.{Form}
use Rattle.terms.specs.Node.{node_at}
use Rattle.terms.specs.Tree.{tree}
use Rattle.rules.specs.Script.{Script as RuleScript}
use Rattle.rules.specs.Compose.{Composed, composed_at, compose, missing}
use Rattle.scripts.specs.declared.instruction.Instruction.{Instruction}
use Rattle.scripts.specs.declared.instruction.Instruction.TheVariants.{Given, Fresh, From, To, Recv, Mate, Left, Right, Join, Seal, Digest, Entry, Open, Same, Send}
use Rattle.scripts.specs.declared.instruction.Line.{Line}
use Rattle.scripts.specs.declared.instruction.ScriptError.{ScriptError}
use Rattle.scripts.specs.declared.instruction.ScriptError.TheVariants.{Full, Missing}
use Rattle.scripts.specs.declared.script.Script.{Script}
use Rattle.scripts.specs.Lines.{slot_of, script_of}
use Rattle.scripts.specs.View.{written}

-- the script as the rules have it, over a table of terms
abbrev pub view : List TermNode → Script → RuleScript
view ts s = script_of (tree ts) (written s)

abbrev pub Below : ℕ → Option ℕ → Type 0
Below n None = Unit {0}
Below n (Some t) = t < n

-- an instruction that names a term names one of the first n
abbrev pub OpBelow : ℕ → Instruction → Type 0
OpBelow n (Given t) = t < n
OpBelow n (Fresh t) = t < n
OpBelow n (From t) = t < n
OpBelow n (To t) = t < n
OpBelow n (Recv t) = t < n
OpBelow n (Mate i) = Unit {0}
OpBelow n (Left i) = Unit {0}
OpBelow n (Right i) = Unit {0}
OpBelow n (Join i j) = Unit {0}
OpBelow n (Seal i j) = Unit {0}
OpBelow n (Digest i j) = Unit {0}
OpBelow n (Entry i j) = Unit {0}
OpBelow n (Open i j) = Unit {0}
OpBelow n (Same i j) = Unit {0}
OpBelow n (Send i j) = Unit {0}

abbrev pub LineBelow : ℕ → Line → Type 0
LineBelow n l = Below n l.holds × OpBelow n l.op

-- every slot that holds a term holds one of the first n
abbrev pub AllKnown : ℕ → List Line → Type 0
AllKnown n [] = Unit {0}
AllKnown n (l ∷ ls) = Below n l.holds × AllKnown n ls

-- every term that an instruction names or a slot holds is one of the first n
abbrev pub AllNamed : ℕ → List Line → Type 0
AllNamed n [] = Unit {0}
AllNamed n (l ∷ ls) = LineBelow n l × AllNamed n ls

abbrev pub Begins : List Line → List Line → Type 0
Begins ls ms = (more : List Line) × (ms ≡ ls ++ more)

-- what was written stays in front
abbrev pub Grows : Script → Script → Type 0
Grows s s' = Begins (written s) (written s')

-- the number is that of a term of the table
abbrev pub IsTerm : List TermNode → ℕ → Type 0
IsTerm ts t = t < length ts

-- the instruction names a term of the table, if it names one
abbrev pub OpNames : List TermNode → Instruction → Type 0
OpNames ts op = OpBelow (length ts) op

-- what the slots of the script hold are terms of the table
abbrev pub HoldsTerms : List TermNode → Script → Type 0
HoldsTerms ts s = AllKnown (length ts) (written s)

-- what the script names or holds are terms of the table
abbrev pub NamesTerms : List TermNode → Script → Type 0
NamesTerms ts s = AllNamed (length ts) (written s)

-- composed as the rules say; full only where what the rules write is longer than 512; missing only where they write nothing
abbrev pub Puts : List TermNode → Script → ℕ → Result ℕ ScriptError → Script → Type 0
Puts ts s t (Ok n) s' = (compose (view ts s) (tree ts t) ≡ Some (composed_at n (view ts s'))) × HoldsTerms ts s'
Puts ts s t (Err Full) s' = (c : Composed) → compose (view ts s) (tree ts t) ≡ Some c → 512 < length c.script
Puts ts s t (Err (Missing m)) s' = compose (view ts s) (tree ts t) ≡ None

-- the form and the parts of a two-part term; none exactly for what is no two-part term
abbrev pub Parts : List TermNode → ℕ → Option (Form × ℕ × ℕ) → Type 0
Parts ts t None = t < length ts → (g : Form) (a b : ℕ) → node_at ts t ≢ Built g a b
Parts ts t (Some p) = (t < length ts) × (node_at ts t ≡ Built p.0 p.1 p.2) × (p.1 < t) × (p.2 < t)

-- a term is marked exactly if some slot holds it
pub record HeldMarks (ls : List Line) (ms : List Bool) : Type 0 where
  pub marks : (t : ℕ) → t < 512 → slice_index_or ms t false ≡ is_some (slot_of 0 ls t)
  pub size : length ms ≡ 512

-- none where the term can be composed, else the missing term of the rules
abbrev pub Lacks : List TermNode → Script → ℕ → Option ℕ → Type 0
Lacks ts s t None = (c : Composed) × (compose (view ts s) (tree ts t) ≡ Some c)
Lacks ts s t (Some m) = (m < length ts) × (missing (view ts s) (tree ts t) ≡ Some (tree ts m)) × (compose (view ts s) (tree ts t) ≡ None)

-- Composing a term, whole: what the rules write, under the slot that they answer; refused as full exactly where that is longer than
-- 512, and for the missing term exactly where they compose nothing. A refusal writes nothing.
abbrev pub Composes : List TermNode → Script → ℕ → Result ℕ ScriptError → Script → Type 0
Composes ts s t (Ok n) s' = (compose (view ts s) (tree ts t) ≡ Some (composed_at n (view ts s'))) × HoldsTerms ts s'
Composes ts s t (Err Full) s' = ((c : Composed) × (compose (view ts s) (tree ts t) ≡ Some c) × (512 < length c.script)) × (written s' ≡ written s)
Composes ts s t (Err (Missing m)) s' = Lacks ts s t (Some m) × (written s' ≡ written s)
