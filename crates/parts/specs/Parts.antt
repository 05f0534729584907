-- The parts of a party's script: the initial one, and one for each step in which the party sends or receives.
use Rattle.std.specs.Prelude.{◌≡◌, ℕ, ◌-◌, ◌<◌, ◌≤◌, cond, List, [], ◌∷◌, length, take, Some, None, Option, ◌==◌, slice_index_or}
use Rattle.deduction.specs.Term.{Term, In}
use Rattle.rules.specs.Script.{Op, FROM, SEND, Line, Script, line}
use Rattle.rules.specs.State.{Step, State, nth, name_of}
use Rattle.valuation.specs.Fit.{at, terms_of}
use Rattle.parts.specs.Kinds.{Starts, Prepares, Takes}
use Rattle.parts.specs.Opening.{opening}

-- the script of an agent; of one that is not there, none
abbrev pub script_of : State → ℕ → Script
script_of st p = slice_index_or st.scripts p []

-- how many instructions of the party's script precede its first step
abbrev pub initial : State → ℕ → ℕ
initial st p = opening (script_of st p)

-- how far the party's script is done when these steps are played, from n on
abbrev pub reached : List Step → ℕ → ℕ → ℕ
reached [] n p = n
reached (x ∷ xs) n p = reached xs (cond (x.sender == p) x.sent (cond (x.receiver == p) x.received n)) p

-- where the party's part of the l-th step begins: how far its script is done by the steps before it
abbrev pub begin : State → ℕ → ℕ → ℕ
begin st l p = reached (take l st.steps) (initial st p) p

-- where the parts begin that a step wrote into its sender's and its receiver's script, given the steps before it
abbrev pub sent_from : State → List Step → Step → ℕ
sent_from st earlier x = reached earlier (initial st x.sender) x.sender

abbrev pub received_from : State → List Step → Step → ℕ
received_from st earlier x = reached earlier (initial st x.receiver) x.receiver

-- every instruction from one place up to another is of such a kind
abbrev pub Each : (Op → Type 0) → Script → ℕ → ℕ → Type 0
Each O s from end = (k : ℕ) (l : Line) → from ≤ k → k < end → nth s k ≡ Some l → O l.op

-- a sender's part: it ends with its only SEND, of slots that stand for the message and the receiver's name
pub record SenderPart (s : Script) (m to : Term) (from end : ℕ) : Type 0 where
  pub some : from < end
  pub within : end ≤ length s
  pub message_slot : ℕ
  pub address_slot : ℕ
  pub last : nth s (end - 1) ≡ Some (line (SEND message_slot address_slot) None)
  pub message_before : message_slot < end - 1
  pub address_before : address_slot < end - 1
  pub message_is : at (terms_of s) message_slot ≡ m
  pub address_is : at (terms_of s) address_slot ≡ to
  pub sent_is : at (terms_of s) (end - 1) ≡ m
  pub prepares : Each Prepares s from (end - 1)

-- a receiver's part: it begins with FROM the sender, and no other term comes in than the sender's name and the message
pub record ReceiverPart (s : Script) (who m : Term) (from end : ℕ) : Type 0 where
  pub some : from < end
  pub within : end ≤ length s
  pub holds : Option Term
  pub first : nth s from ≡ Some (line (FROM who) holds)
  pub takes : Each (Takes who m) s from end

-- what a granted step wrote, given the steps before it: the two parts, each of which follows what its party had done
pub record StepWrote (st : State) (earlier : List Step) (x : Step) : Type 0 where
  pub sender_from : 1 ≤ x.sender
  pub sender_below : x.sender < length st.scripts
  pub receiver_from : 1 ≤ x.receiver
  pub receiver_below : x.receiver < length st.scripts
  pub different : x.sender ≡ x.receiver → ⊥
  pub message_in : In x.message st.terms
  pub sender_name : Term
  pub sender_is : name_of st x.sender ≡ Some sender_name
  pub sender_in : In sender_name st.terms
  pub receiver_name : Term
  pub receiver_is : name_of st x.receiver ≡ Some receiver_name
  pub receiver_in : In receiver_name st.terms
  pub sends : SenderPart (script_of st x.sender) x.message receiver_name (sent_from st earlier x) x.sent
  pub receives : ReceiverPart (script_of st x.receiver) sender_name x.message (received_from st earlier x) x.received

-- a party's script: what precedes its first step, and that all is done when all steps are played
pub record PartyWrote (st : State) (p : ℕ) : Type 0 where
  pub within : initial st p ≤ length (script_of st p)
  pub starts : Each Starts (script_of st p) 0 (initial st p)
  pub all : reached st.steps (initial st p) p ≡ length (script_of st p)
