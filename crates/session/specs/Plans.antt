-- What a call is to carry out, or why it is refused before the provider is asked for anything.
use Rattle.std.specs.Prelude.{◌≡◌, ℕ, ◌+◌, Bool, cond, ◌&&◌, List, [], length, Some, None, Ok, Err, Option, Result, ◌==◌, nat_le, nat_lt, slice_index_or}
use Rattle.std.specs.Borrow.{Bor}
use Rattle.terms.specs.Listed.{listed}
use Rattle.scripts.specs.declared.instruction.Line.{Line}
use Rattle.scripts.specs.declared.script.Script.{Script}
use Rattle.scripts.specs.View.{written}
use Rattle.rules.specs.State.{State}
use Rattle.parts.specs.Parts.{initial, begin}
use Rattle.acting.specs.declared.instruction.Part.{Part}
use Rattle.acting.specs.declared.instruction.Part.TheVariants.{Start, Send, Receive}
use Rattle.acting.specs.declared.refusal.SessionRefusal.{SessionRefusal}
use Rattle.acting.specs.declared.refusal.SessionRefusal.TheVariants.{NoParty, NoMemory, NotItsTurn}
use Rattle.protocol.specs.declared.protocol.Protocol.{Protocol}
use Rattle.protocol.specs.declared.step.Step.{Step}
use Rattle.protocol.specs.View.{lines_of, steps_of, view_of}
use Rattle.session.specs.declared.work.Work.{Work}
use Rattle.session.specs.Turns.{next_of}

-- the instructions of an agent's script; none where there is no such agent
abbrev pub lines_in : Protocol → ℕ → List Line
lines_in c p = slice_index_or (lines_of c) p []

-- the agent is a party: it is there, and it is not the listener
abbrev pub is_party : Protocol → ℕ → Bool
is_party c p = nat_lt 0 p && nat_lt p (length (lines_of c))

-- so many readings and slots are enough: a reading for each term, and a slot for each instruction of the party's script
abbrev pub enough : Protocol → ℕ → ℕ → ℕ → Bool
enough c p readings slots = nat_le (length (listed c.terms)) readings && nat_le (length (lines_in c p)) slots

-- the refusals that come before that for the turn, in their order
abbrev pub unready : Protocol → ℕ → ℕ → ℕ → Option SessionRefusal
unready c p readings slots = cond (is_party c p) (cond (enough c p readings slots) None (Some NoMemory)) (Some NoParty)

-- the party's script, or the refusal
abbrev pub Readied : Protocol → ℕ → ℕ → ℕ → Result (Bor Script) SessionRefusal → Type 0
Readied c p readings slots (Ok s) = (unready c p readings slots ≡ None) × (lines_in c p ≡ written s.now)
Readied c p readings slots (Err e) = unready c p readings slots ≡ Some e

-- the party's next step with its number; none before the start
abbrev pub next_step : Protocol → ℕ → Option ℕ → Option (ℕ × Step)
next_step c p None = None
next_step c p (Some n) = next_of (steps_of c) n p

-- without a next step it is not the party's turn
abbrev pub turn_of : Option (ℕ × Step) → Result (ℕ × Step) SessionRefusal
turn_of None = Err NotItsTurn
turn_of (Some x) = Ok x

-- to start: what precedes the party's first step
abbrev pub start_work : Protocol → ℕ → Option ℕ → Result Work SessionRefusal
start_work p who None = Ok (record { start = 0; end = initial (view_of p) who; part = Start; next = 0 })
start_work p who (Some n) = Err NotItsTurn

-- the part of step l that agent p carries out up to `end`, if that is who asks
abbrev pub part_work : State → ℕ → ℕ → ℕ → ℕ → Part → Result Work SessionRefusal
part_work st who l p end part = cond (p == who) (Ok (record { start = begin st l p; end = end; part = part; next = l + 1 })) (Err NotItsTurn)

-- to send: the sender's part of the party's next step, if it sends in it
abbrev pub send_part : State → ℕ → Option (ℕ × Step) → Result Work SessionRefusal
send_part st who None = Err NotItsTurn
send_part st who (Some x) = part_work st who x.0 x.1.sender x.1.sent Send

-- to send in a turn
abbrev pub send_work : Protocol → ℕ → Option ℕ → Result Work SessionRefusal
send_work p who t = send_part (view_of p) who (next_step p who t)

-- to receive: the receiver's part of the party's next step, if it receives in it, with what is handed to it
abbrev pub receive_part : State → ℕ → ℕ → ℕ → Option (ℕ × Step) → Result Work SessionRefusal
receive_part st who from message None = Err NotItsTurn
receive_part st who from message (Some x) = part_work st who x.0 x.1.receiver x.1.received (Receive from message)

-- to receive in a turn, with the handles of the sender's name and the message
abbrev pub receive_work : ℕ → ℕ → Protocol → ℕ → Option ℕ → Result Work SessionRefusal
receive_work from message p who t = receive_part (view_of p) who from message (next_step p who t)
