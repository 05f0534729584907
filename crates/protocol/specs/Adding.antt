-- Adding terms: numbers of kinds and forms, refusals, and what it does to the terms and to the scripts.
use Rattle.std.specs.Prelude.{◌≡◌, ℕ, ◌+◌, ◌≤◌, true, cond, List, [], ◌∷◌, ◌++◌, length, Some, None, Ok, Err, Option, Result, nat_lt}
use Rattle.deduction.specs.Term.{Kind as TreeKind, Form as TreeForm}
use Rattle.terms.specs.declared.node.Kind.{Kind}
use Rattle.terms.specs.declared.node.Kind.TheVariants.{Party, Number, Shared, Public, Table, Function}
use Rattle.terms.specs.declared.node.Form.{Form}
use Rattle.terms.specs.declared.node.TermNode.{TermNode}
use Rattle.terms.specs.declared.node.TermNode.TheVariants.{Name, Mate}
use Rattle.terms.specs.declared.table.Terms.{Terms}
use Rattle.terms.specs.Tree.{kind_of, form_of}
use Rattle.terms.specs.Listed.{listed}
use Rattle.scripts.specs.declared.instruction.Line.{Line}
use Rattle.scripts.specs.declared.instruction.Instruction.TheVariants.{Given}
use Rattle.rules.specs.State.{Call as RuleCall}
use Rattle.protocol.specs.declared.refusal.Refusal.{Refusal}
use Rattle.protocol.specs.declared.refusal.Refusal.TheVariants.{NoRoom, EighthParty}
use Rattle.protocol.specs.declared.step.Step.{Step}
use Rattle.protocol.specs.States.{state_by, scripts_known, steps_known}
use Rattle.protocol.specs.Outcome.{Performed, Unaltered, number}
use Rattle.protocol.specs.Refusals.{refused_as}
use Rattle.terms.specs.declared.node.TermError.{TermError}

-- a kind or form as the rules have it
abbrev pub tree_kind : Option Kind → Option TreeKind
tree_kind None = None
tree_kind (Some k) = Some (kind_of k)

abbrev pub tree_form : Option Form → Option TreeForm
tree_form None = None
tree_form (Some f) = Some (form_of f)

-- the number that the table answers, or the refusal
abbrev pub accepted : Result ℕ TermError → Result ℕ Refusal
accepted (Ok n) = Ok n
accepted (Err e) = Err (refused_as e)

-- the call with terms t is answered o and leaves the terms u, whatever scripts and steps there are
pub record Adds (t : Terms 512) (c : RuleCall) (o : Result ℕ Refusal) (u : Terms 512) : Type 0 where
  pub performed : (ps : List (List Line)) (ss : List Step) → scripts_known (length (listed t)) ps ≡ true → steps_known (length (listed t)) ss ≡ true
      → Performed (state_by (listed t) ps ss) c (number o) (state_by (listed u) ps ss)
  pub longer : length (listed t) ≤ length (listed u)
  pub unaltered : Unaltered o t u

-- how many terms a name of the kind adds: a public key comes with its mate
abbrev pub places : Kind → ℕ
places Party = 1
places Number = 1
places Shared = 1
places Public = 2
places Table = 1
places Function = 1

-- how many agents it opens
abbrev pub opens : Kind → ℕ
opens Party = 1
opens Number = 0
opens Shared = 0
opens Public = 0
opens Table = 0
opens Function = 0

-- the test of a name: places for its terms, and an agent for a party
abbrev pub admitted : ℕ → ℕ → Kind → Result (Unit {0}) Refusal
admitted n agents k = cond (nat_lt 512 (n + places k)) (Err NoRoom) (cond (nat_lt 8 (agents + opens k)) (Err EighthParty) (Ok tt))

-- the records of a new name under the number n, which is its identity
abbrev pub new_nodes : Kind → ℕ → List TermNode
new_nodes Party n = Name Party n ∷ []
new_nodes Number n = Name Number n ∷ []
new_nodes Shared n = Name Shared n ∷ []
new_nodes Public n = Name Public n ∷ Mate n ∷ []
new_nodes Table n = Name Table n ∷ []
new_nodes Function n = Name Function n ∷ []

-- the new name has the next number, and its records are added
abbrev pub Named : List TermNode → Kind → Result ℕ Refusal → List TermNode → Type 0
Named ts k (Ok n) us = (n ≡ length ts) × (us ≡ ts ++ new_nodes k n)
Named ts k (Err e) us = ⊥

-- the script of a new party: it holds the party's own name
abbrev pub party_lines : ℕ → List Line
party_lines n = record { op = Given n; holds = Some n } ∷ []
