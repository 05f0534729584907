-- What calls on a workspace answer and leave.
use Rattle.std.specs.Prelude.{◌≡◌, ℕ, Bool, true, false, ◌&&◌, List, [], ◌∷◌, ◌++◌, length, take, drop, replicate, slice_get, slice_set, nat_le, Some, None, Option, Result, IsSomeAnd}
use Rattle.bounded.specs.Items.{items}
use Rattle.provider.specs.Algebra.{Algebra}
use Rattle.provider.specs.Meaning.{Meaning}
use Rattle.acting.specs.declared.refusal.SessionRefusal.{SessionRefusal}
use Rattle.protocol.specs.declared.protocol.Protocol.{Protocol}
use Rattle.runs.specs.declared.fault.Played.{Played}
use Rattle.runs.specs.declared.fault.RunFault.{RunFault}
use Rattle.runs.specs.Whole.{RanOf}
use Rattle.session.specs.Outcome.{Loaded}
use Rattle.console_calls.specs.declared.call.Act.{Act}
use Rattle.console_calls.specs.declared.call.Act.TheVariants.{Load, Session, Run}
use Rattle.console_calls.specs.declared.call.Turn.{Turn}
use Rattle.console.specs.declared.answer.Answer.{Answer}
use Rattle.console.specs.declared.answer.Answer.TheVariants.{Done, Number, Counted, Run as RunAnswer}
use Rattle.console.specs.declared.session_state.SessionState.{SessionState}
use Rattle.console.specs.declared.workspace.Workspace.{Workspace}
use Rattle.console.specs.Sessions.{Turned, opened}

-- all readings 0, no session, everything lent
pub record Blank (w : Workspace) : Type 0 where
  pub readings : w.readings ≡ replicate 512 0
  pub sessions : items w.sessions ≡ []
  pub lent_readings : w.lent.readings ≡ 512
  pub lent_slots : w.lent.slots ≡ 4096

abbrev pub LentBy : Bool → ℕ → ℕ → Workspace → Option Answer → Workspace → Type 0
LentBy false r n w a w' = (a ≡ None) × (w' ≡ w)
LentBy true r n w a w' = (a ≡ Some Done) × (w'.lent.readings ≡ r) × (w'.lent.slots ≡ n) × (w'.readings ≡ w.readings) × (w'.sessions ≡ w.sessions)

-- what readings and slots hold stays
abbrev pub LentIf : ℕ → ℕ → Workspace → Option Answer → Workspace → Type 0
LentIf r n w a w' = LentBy (nat_le r 512 && nat_le n 4096) r n w a w'

-- there is no place for a seventeenth session
abbrev pub Opens : ℕ → Workspace → Option Answer → Workspace → Type 0
Opens party w None w' = (length (items w.sessions) ≡ 16) × (w' ≡ w)
Opens party w (Some a) w' = (a ≡ Number (length (items w.sessions))) × (items w'.sessions ≡ items w.sessions ++ opened party ∷ []) × (w'.readings ≡ w.readings) × (w'.lent ≡ w.lent)

-- the readings that are lent
abbrev pub lent_of : Workspace → List ℕ
lent_of w = take w.lent.readings w.readings

-- what is not lent of the readings, the sessions, and how much is lent, are as they were
pub record Kept (w w' : Workspace) : Type 0 where
  pub rest : drop w.lent.readings w'.readings ≡ drop w.lent.readings w.readings
  pub sessions : w'.sessions ≡ w.sessions
  pub lent : w'.lent ≡ w.lent

pub record LoadsOn {S X : Type 0} (f : Algebra X) (m : S → Meaning X) (p : Protocol) (w : Workspace) (s : S) (a : Answer) (w' : Workspace) (s' : S) : Type 0 where
  pub result : Result ℕ SessionRefusal
  pub loaded : Loaded f m p s (lent_of w) result s' (lent_of w')
  pub kept : Kept w w'
  pub told : a ≡ Counted result

-- a run on the readings that are lent, and on slots of its own, all 0
pub record RunsOn {S X : Type 0} (f : Algebra X) (m : S → Meaning X) (p : Protocol) (w : Workspace) (s : S) (a : Answer) (w' : Workspace) (s' : S) : Type 0 where
  pub result : Result Played RunFault
  pub slots : List ℕ
  pub ran : RanOf f m p s (lent_of w) (take w.lent.slots (replicate 4096 0)) result s' (lent_of w') slots
  pub kept : Kept w w'
  pub told : a ≡ RunAnswer result

pub record TurnTaken {S X : Type 0} (f : Algebra X) (m : S → Meaning X) (p : Protocol) (number : ℕ) (turn : Turn) (x : SessionState) (w : Workspace) (s : S) (a : Option Answer) (w' : Workspace) (s' : S) : Type 0 where
  pub answer : Answer
  pub session : SessionState
  pub turned : Turned f m p (lent_of w) w.lent.slots turn x s answer session s'
  pub sessions : items w'.sessions ≡ slice_set (items w.sessions) number session
  pub readings : w'.readings ≡ w.readings
  pub lent : w'.lent ≡ w.lent
  pub told : a ≡ Some answer

-- without such a session nothing is altered
abbrev pub TurnIf : {S X : Type 0} → Algebra X → (S → Meaning X) → Protocol → ℕ → Turn → Option SessionState → Workspace → S → Option Answer → Workspace → S → Type 0
TurnIf f m p number turn None w s a w' s' = (a ≡ None) × (w' ≡ w) × (s' ≡ s)
TurnIf f m p number turn (Some x) w s a w' s' = TurnTaken f m p number turn x w s a w' s'

abbrev pub TurnOf : {S X : Type 0} → Algebra X → (S → Meaning X) → Protocol → ℕ → Turn → Workspace → S → Option Answer → Workspace → S → Type 0
TurnOf f m p number turn w s a w' s' = TurnIf f m p number turn (slice_get (items w.sessions) number) w s a w' s'

-- the whole outcome of what a protocol and a provider do together
abbrev pub Acts : {S X : Type 0} → Algebra X → (S → Meaning X) → Protocol → Act → Workspace → S → Option Answer → Workspace → S → Type 0
Acts f m p Load w s a w' s' = IsSomeAnd a (λ x. LoadsOn f m p w s x w' s')
Acts f m p (Session number turn) w s a w' s' = TurnOf f m p number turn w s a w' s'
Acts f m p Run w s a w' s' = IsSomeAnd a (λ x. RunsOn f m p w s x w' s')
