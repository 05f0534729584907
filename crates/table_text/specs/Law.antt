-- The law on refusals, said of texts.
use Rattle.std.specs.Prelude.{◌≡◌, ℕ, ◌<◌, ◌≤◌, List, length, Some, Ok, Err, Result}
use Rattle.rules.specs.State.{State, name_of}
use Rattle.rules.specs.History.{History, Came, Stands}
use Rattle.syntax.specs.Grammar.{Term, Line, sends}
use Rattle.protocol.specs.declared.refusal.Refusal.{Refusal}
use Rattle.protocol.specs.declared.refusal.Refusal.TheVariants.{Unmakeable, ScriptFull}
use Rattle.protocol.specs.Laws.{StepLaw}
use Rattle.table_text.specs.declared.fault.TextFault.{TextFault}
use Rattle.table_text.specs.declared.fault.TextFault.TheVariants.{Protocol}
use Rattle.table_text.specs.Calls.{Known, Made, Steps, agent_in}
use Rattle.table_text.specs.Tables.{IsLineAt, Begun}
use Rattle.table_text.specs.Written.{name_in, term_in}

-- the text is not too long, its first lines are granted, and the step line `line a b t` stands after them, at p
pub record StepLine (text : List ℕ) (p : ℕ) (a b : List ℕ) (t : Term) : Type 0 where
  pub short : length text ≤ 32768
  pub before : List Line
  pub declared : Known
  pub state : State
  pub begun : Begun text before p declared state
  pub within : p < length text
  pub next : ℕ
  pub is : IsLineAt declared text p (sends a b t) next

-- The calls that make the line's message are granted, and its step is answered r. In the state in which it was asked, to which some calls
-- from blank lead, the agents are the parties a and b, and the message is the term that the line writes. And the answer is right: after
-- whichever calls led there, the sender can build the message if the step is granted or only a script is full, and cannot if the step is
-- unmakeable.
pub record Asked {text : List ℕ} {p : ℕ} {a b : List ℕ} {t : Term} (s : StepLine text p a b t) (r : Result ℕ Refusal) : Type 0 where
  pub message : ℕ
  pub asked : State
  pub made : Made s.declared t s.state (Ok message) asked
  pub after : State
  pub answered : Steps (agent_in s.declared a) (agent_in s.declared b) message asked r after
  pub past : History
  pub came : Came past asked
  pub sender : name_of asked (agent_in s.declared a) ≡ Some (name_in s.declared a)
  pub receiver : name_of asked (agent_in s.declared b) ≡ Some (name_in s.declared b)
  pub stands : Stands past message (term_in s.declared t)
  pub right : StepLaw asked (agent_in s.declared a) message r

-- what the answer for a text says of building
pub record TextLaw (text : List ℕ) (r : Result ℕ TextFault) : Type 0 where
  -- each step line, unless it is the one that is refused, is a granted step
  pub granted : (p : ℕ) (a b : List ℕ) (t : Term) (s : StepLine text p a b t) → ((f : Refusal) → r ≡ Err (Protocol f p) → ⊥) → (l : ℕ) × Asked s (Ok l)
  -- a text is refused as unmakeable at a step line only, whose sender cannot build the message; x is the number of what is missing
  pub unmakeable : (x p : ℕ) → r ≡ Err (Protocol (Unmakeable x) p) → (a : List ℕ) × (b : List ℕ) × (t : Term) × (s : StepLine text p a b t) × Asked s (Err (Unmakeable x))
  -- a step line that is refused for a full script is one whose sender can build the message
  pub full : (q p : ℕ) → r ≡ Err (Protocol (ScriptFull q) p) → (a b : List ℕ) (t : Term) (s : StepLine text p a b t) → Asked s (Err (ScriptFull q))
