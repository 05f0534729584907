-- What a session does in its turn, on slots of its own.
use Rattle.std.specs.Prelude.{◌≡◌, ℕ, List, take, drop, min, replicate, None, Result}
use Rattle.provider.specs.Algebra.{Algebra}
use Rattle.provider.specs.Meaning.{Meaning}
use Rattle.acting.specs.declared.refusal.SessionRefusal.{SessionRefusal}
use Rattle.protocol.specs.declared.protocol.Protocol.{Protocol}
use Rattle.session.specs.declared.session.Session.{Session}
use Rattle.session.specs.Outcome.{Starts, Sends, Receives}
use Rattle.console_calls.specs.declared.call.Turn.{Turn}
use Rattle.console_calls.specs.declared.call.Turn.TheVariants.{Start, Send, Receive}
use Rattle.console.specs.declared.answer.Answer.{Answer}
use Rattle.console.specs.declared.answer.Answer.TheVariants.{Counted, Sent}
use Rattle.console.specs.declared.session_state.SessionState.{SessionState}

-- a new session has not started, and its slots are 0
abbrev pub opened : ℕ → SessionState
opened party = record { session = record { party = party; next = None }; slots = replicate 512 0 }

-- A call on a session does what the call says, on the first n slots; the others stay. The answer tells what it came to.
pub record Does {S A : Type 0} (call : Session → S → List ℕ → Result A SessionRefusal → Session → S → List ℕ → Type 0) (tell : Result A SessionRefusal → Answer) (n : ℕ) (x : SessionState) (s : S) (a : Answer) (x' : SessionState) (s' : S) : Type 0 where
  pub result : Result A SessionRefusal
  pub does : call x.session s (take n x.slots) result x'.session s' (take n x'.slots)
  pub rest : drop n x'.slots ≡ drop n x.slots
  pub told : a ≡ tell result

-- a turn, with so many slots lent as there are at most
abbrev pub Turned : {S X : Type 0} → Algebra X → (S → Meaning X) → Protocol → List ℕ → ℕ → Turn → SessionState → S → Answer → SessionState → S → Type 0
Turned f m p readings lent Start x s a x' s' = Does (Starts f m p readings) Counted (min lent 512) x s a x' s'
Turned f m p readings lent Send x s a x' s' = Does (Sends f m p readings) Sent (min lent 512) x s a x' s'
Turned f m p readings lent (Receive from message) x s a x' s' = Does (Receives f m p readings from message) Counted (min lent 512) x s a x' s'
