-- Both laws of one call: of the calls that were made and of the run of what came of them.
use Rattle.std.specs.Prelude.{◌≡◌, ℕ, ◌<◌, ◌≤◌, ◌⊎◌, List, length, take, Err, Result}
use Rattle.acting.specs.declared.refusal.SessionRefusal.TheVariants.{NoMemory}
use Rattle.provider.specs.Algebra.{Algebra}
use Rattle.provider.specs.Meaning.{Meaning}
use Rattle.terms.specs.Listed.{listed}
use Rattle.protocol.specs.declared.call.Call.{Call}
use Rattle.protocol.specs.declared.call.Reply.{Reply}
use Rattle.protocol.specs.declared.refusal.Refusal.{Refusal}
use Rattle.protocol.specs.declared.protocol.Protocol.{Protocol}
use Rattle.protocol.specs.View.{lines_of, steps_of}
use Rattle.runs.specs.declared.fault.Played.{Played}
use Rattle.runs.specs.declared.fault.RunFault.{RunFault}
use Rattle.runs.specs.Law.{RanRight}
use Rattle.runs.specs.Memory.{Enough}
use Rattle.runs.specs.Runs.{Ran}
use Rattle.compiled.specs.Histories.{history_of, Performs}

-- refused before the first step and outside of all scripts, for want of memory
abbrev pub unanswered : RunFault
unanswered = record { refusal = NoMemory; step = 64; party = 0 }

-- The calls were made and what came of them was run. With the lent calls and their answers as the history: every answer is right by the
-- calls before it, and, with enough memory, the run is right by them all.
pub record Completed {S X : Type 0} (f : Algebra X) (m : S → Meaning X) (calls : List Call) (answers : List (Result Reply Refusal)) (s : S) (readings slots : List ℕ) (r : Result Played RunFault)
    (p' : Protocol) (answers' : List (Result Reply Refusal)) (s' : S) (readings' slots' : List ℕ) : Type 0 where
  pub answered : length calls ≤ length answers
  pub performs : Performs calls answers p' answers'
  pub ran : Ran f m (listed p'.terms) (lines_of p') (steps_of p') s readings slots r s' readings' slots'
  pub right :
      Enough (listed p'.terms) (lines_of p') readings slots
      → RanRight f m (history_of calls (take (length calls) answers')) (listed p'.terms) (lines_of p') (steps_of p') r s' readings' slots'

-- with fewer answers lent than calls nothing is altered
pub record Unanswered {S : Type 0} (calls : List Call) (p : Protocol) (answers : List (Result Reply Refusal)) (s : S) (readings slots : List ℕ) (r : Result Played RunFault)
    (p' : Protocol) (answers' : List (Result Reply Refusal)) (s' : S) (readings' slots' : List ℕ) : Type 0 where
  pub fewer : length answers < length calls
  pub refused : r ≡ Err unanswered
  pub same_protocol : p' ≡ p
  pub same_answers : answers' ≡ answers
  pub same_provider : s' ≡ s
  pub same_readings : readings' ≡ readings
  pub same_slots : slots' ≡ slots

abbrev pub Compiled : {S X : Type 0} → Algebra X → (S → Meaning X) → List Call → Protocol → List (Result Reply Refusal) → S → List ℕ → List ℕ → Result Played RunFault → Protocol → List (Result Reply Refusal) → S → List ℕ → List ℕ → Type 0
Compiled f m calls p answers s readings slots r p' answers' s' readings' slots' =
    Completed f m calls answers s readings slots r p' answers' s' readings' slots' ⊎ Unanswered calls p answers s readings slots r p' answers' s' readings' slots'
