-- What reading a protocol answers.
use Rattle.std.specs.Prelude.{◌≡◌, ℕ, ◌+◌, ◌<◌, ◌≤◌, Bool, true, false, cond, List, [], ◌∷◌, length, Some, None, Option, ◌==◌}
use Rattle.std.specs.Borrow.{Bor}
use Rattle.terms.specs.declared.node.Kind.{Kind}
use Rattle.terms.specs.declared.node.Kind.TheVariants.{Party, Number, Shared, Public, Table, Function}
use Rattle.terms.specs.declared.node.TermNode.{TermNode}
use Rattle.terms.specs.declared.node.TermNode.TheVariants.{Name, Built, Mate}
use Rattle.terms.specs.Tree.{tree}
use Rattle.scripts.specs.declared.instruction.Instruction.{Instruction}
use Rattle.scripts.specs.declared.instruction.Instruction.TheVariants.{Given, Fresh, From, To, Recv, Mate as MateOf, Left, Right, Join, Seal, Digest, Entry, Open, Same, Send}
use Rattle.scripts.specs.declared.instruction.Line.{Line}
use Rattle.scripts.specs.declared.script.Script.{Script}
use Rattle.scripts.specs.View.{written}
use Rattle.rules.specs.State.{nth, party_names, name_at}
use Rattle.parts.specs.Opening.{built_before}
use Rattle.protocol.specs.declared.step.Step.{Step}
use Rattle.protocol.specs.States.{trees}

-- the script at a place; none exactly past the last agent
abbrev pub ShowsScript : List (List Line) → ℕ → Option (Bor Script) → Type 0
ShowsScript ps p None = length ps ≤ p
ShowsScript ps p (Some s) = nth ps p ≡ Some (written s.now)

-- the number of an agent's name; none exactly where it has none
abbrev pub AgentName : List TermNode → ℕ → Option ℕ → Type 0
AgentName ts p None = name_at (trees ts) p ≡ None
AgentName ts p (Some n) = (n < length ts) × (name_at (trees ts) p ≡ Some (tree ts n))

-- the record is that of a party's name
abbrev pub is_party_kind : Kind → Bool
is_party_kind Party = true
is_party_kind Number = false
is_party_kind Shared = false
is_party_kind Public = false
is_party_kind Table = false
is_party_kind Function = false

abbrev pub is_party_node : TermNode → Bool
is_party_node (Name k i) = is_party_kind k
is_party_node (Built f a b) = false
is_party_node (Mate a) = false

abbrev pub is_party : Option TermNode → Bool
is_party None = false
is_party (Some r) = is_party_node r

-- the number of the party name before which there are as many others
abbrev pub PartyName : List TermNode → ℕ → Option ℕ → Type 0
PartyName ts n None = nth (party_names (trees ts)) n ≡ None
PartyName ts n (Some i) = (i < length ts) × (nth (party_names (trees ts)) n ≡ Some (tree ts i))

-- how long the opening of a script is with one instruction more in front, where n is how long it is without
abbrev pub opens_by : Instruction → ℕ → ℕ
opens_by (Given t) n = n + 1
opens_by (Fresh t) n = 0
opens_by (From t) n = 0
opens_by (To t) n = 0
opens_by (Recv t) n = 0
opens_by (MateOf i) n = 0
opens_by (Left i) n = n + 1
opens_by (Right i) n = n + 1
opens_by (Join i j) n = built_before n
opens_by (Seal i j) n = built_before n
opens_by (Digest i j) n = built_before n
opens_by (Entry i j) n = built_before n
opens_by (Open i j) n = n + 1
opens_by (Same i j) n = 0
opens_by (Send i j) n = 0

abbrev pub opening_of : List Line → ℕ
opening_of [] = 0
opening_of (l ∷ ls) = opens_by l.op (opening_of ls)

-- how far the agent's script is done after a step, if it was done so far before
abbrev pub end_of : Step → ℕ → ℕ → ℕ
end_of s p n = cond (s.sender == p) s.sent (cond (s.receiver == p) s.received n)
