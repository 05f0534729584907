-- The law on refusals: what the answers of steps and of can-build say of building, in the words of the calls that were made.
use Rattle.std.specs.Prelude.{ℕ, Bool, Ok, Err, Decides, Result}
use Rattle.deduction.specs.Term.{Term}
use Rattle.rules.specs.State.{State}
use Rattle.rules.specs.History.{History, Came, Stands, CanBuild, CanSend}
use Rattle.rules.specs.Theorems.{MissingFrom}
use Rattle.protocol.specs.declared.refusal.Refusal.{Refusal}
use Rattle.protocol.specs.declared.refusal.Refusal.TheVariants.{Unknown, WrongKind, NoRoom, EighthParty, TooLate, NoTwoParties, LastStep, NoAddress, Unmakeable, ScriptFull}

-- A step refused as unmakeable is one whose message its sender cannot build, by the seven ways in any number of steps, from what it was
-- given with the names fresh there and the mates of fresh public keys; the missing term is a name or a mate in the message that it
-- cannot build. Past the earlier tests every other step is one whose message it can build.
abbrev pub StepRight : History → ℕ → Term → Result ℕ Refusal → Type 0
StepRight past a t (Ok l) = CanSend past a t
StepRight past a t (Err Unknown) = Unit {0}
StepRight past a t (Err WrongKind) = ⊥
StepRight past a t (Err NoRoom) = ⊥
StepRight past a t (Err EighthParty) = ⊥
StepRight past a t (Err TooLate) = ⊥
StepRight past a t (Err NoTwoParties) = Unit {0}
StepRight past a t (Err LastStep) = Unit {0}
StepRight past a t (Err NoAddress) = Unit {0}
StepRight past a t (Err (Unmakeable x)) = (CanSend past a t → ⊥) × MissingFrom past a x t
StepRight past a t (Err (ScriptFull p)) = CanSend past a t

-- for every list of calls from blank that led to the state, and the term that the number stands for
pub record StepLaw (st : State) (a n : ℕ) (r : Result ℕ Refusal) : Type 0 where
  pub right : (past : History) → Came past st → (t : Term) → Stands past n t → StepRight past a t r

-- yes exactly if the agent can build the term, by the seven ways in any number of steps, from what it was given
abbrev pub SaidRight : History → ℕ → Term → Result Bool Refusal → Type 0
SaidRight past p t (Ok b) = Decides b (CanBuild past p t)
SaidRight past p t (Err Unknown) = Unit {0}
SaidRight past p t (Err WrongKind) = ⊥
SaidRight past p t (Err NoRoom) = ⊥
SaidRight past p t (Err EighthParty) = ⊥
SaidRight past p t (Err TooLate) = ⊥
SaidRight past p t (Err NoTwoParties) = ⊥
SaidRight past p t (Err LastStep) = ⊥
SaidRight past p t (Err NoAddress) = ⊥
SaidRight past p t (Err (Unmakeable x)) = ⊥
SaidRight past p t (Err (ScriptFull q)) = ⊥

pub record CanBuildLaw (st : State) (p n : ℕ) (r : Result Bool Refusal) : Type 0 where
  pub right : (past : History) → Came past st → (t : Term) → Stands past n t → SaidRight past p t r
