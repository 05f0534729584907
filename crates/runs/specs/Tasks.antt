-- What the parties do in a run, one after the other.
use Rattle.std.specs.Prelude.{◌≡◌, ℕ, zero, suc, ◌+◌, ◌-◌, List, [], ◌∷◌, Some, None, Ok, Err, Option, Result, MatchResult, slice_index}
use Rattle.provider.specs.Algebra.{Algebra}
use Rattle.provider.specs.Meaning.{Meaning}
use Rattle.terms.specs.declared.node.TermNode.{TermNode}
use Rattle.scripts.specs.declared.instruction.Line.{Line}
use Rattle.rules.specs.State.{State}
use Rattle.parts.specs.Parts.{initial, begin}
use Rattle.acting.specs.declared.halt.Halt.{Halt}
use Rattle.acting.specs.declared.instruction.Part.{Part}
use Rattle.acting.specs.declared.instruction.Part.TheVariants.{Start as STARTING, Send as SENDING, Receive as RECEIVING}
use Rattle.acting.specs.Carrying.{CarriedOut}
use Rattle.acting.specs.Refusals.{halt_refusal}
use Rattle.protocol.specs.declared.step.Step.{Step}
use Rattle.protocol.specs.Reading.{AgentName}
use Rattle.runs.specs.declared.fault.RunFault.{RunFault}
use Rattle.runs.specs.declared.task.Role.{Role}
use Rattle.runs.specs.declared.task.Role.TheVariants.{Start, Send, Receive}
use Rattle.runs.specs.declared.task.Task.{Task}
use Rattle.runs.specs.Memory.{lines_at, base_of}

-- what a party does before the first step
abbrev pub start_task : State → ℕ → Task
start_task st p = record { step = 64; party = p; start = 0; end = initial st p; role = Start }

-- what a party does in the step of this number up to a place
abbrev pub task_in : State → ℕ → ℕ → ℕ → Role → Task
task_in st l p end role = record { step = l; party = p; start = begin st l p; end = end; role = role }

-- what the sender does in the step of this number, and what the receiver does
abbrev pub send_task : State → ℕ → Step → Task
send_task st l x = task_in st l x.sender x.sent Send

abbrev pub receive_task : State → ℕ → Step → Task
receive_task st l x = task_in st l x.receiver x.received (Receive x.sender x.sent)

abbrev pub both_tasks : State → ℕ → Step → List Task
both_tasks st l x = send_task st l x ∷ receive_task st l x ∷ []

-- the starts of k parties from p on
abbrev pub starts_from : State → ℕ → ℕ → List Task
starts_from st p zero = []
starts_from st p (suc k) = start_task st p ∷ starts_from st (p + 1) k

-- the starts of all parties, of n agents
abbrev pub start_tasks : State → ℕ → List Task
start_tasks st n = starts_from st 1 (n - 1)

-- the parts of steps, the first of which has the number l
abbrev pub step_tasks : State → ℕ → List Step → List Task
step_tasks st l [] = []
step_tasks st l (x ∷ xs) = send_task st l x ∷ receive_task st l x ∷ step_tasks st (l + 1) xs

-- the reading of a term; 0 where there is none
abbrev pub reading_of : List ℕ → Option ℕ → ℕ
reading_of readings None = 0
reading_of readings (Some n) = slice_index readings n

-- the handle is the reading of the party's name
abbrev pub Handles : List TermNode → List ℕ → ℕ → ℕ → Type 0
Handles ts readings p h = (o : Option ℕ) × AgentName ts p o × (h ≡ reading_of readings o)

-- What a part is handed: the receiver the reading of the sender's name, and the handle in the last slot that the sender has done.
abbrev pub Hands : List TermNode → List (List Line) → List ℕ → List ℕ → Role → Part → Type 0
Hands ts ps readings slots Start part = part ≡ STARTING
Hands ts ps readings slots Send part = part ≡ SENDING
Hands ts ps readings slots (Receive a n) part = (h : ℕ) × Handles ts readings a h × (part ≡ RECEIVING h (slice_index slots (base_of ps a + (n - 1))))

-- what comes of a task, from what came of its part of the script
abbrev pub outcome_of : Task → Result ℕ Halt → Result ℕ RunFault
outcome_of t (Ok n) = Ok n
outcome_of t (Err h) = Err (record { refusal = halt_refusal h; step = t.step; party = t.party })

-- A task, whole: the party's lines are carried out on its slots.
abbrev pub Does : {S X : Type 0} → Algebra X → (S → Meaning X) → List TermNode → List (List Line) → List ℕ → Task → S → List ℕ → Result ℕ RunFault → S → List ℕ → Type 0
Does f m ts ps readings t s slots r s' slots' =
    (part : Part) × (c : Result ℕ Halt) × Hands ts ps readings slots t.role part
    × CarriedOut f m readings part (base_of ps t.party) (lines_at ps t.party) t.start t.end s slots c s' slots' × (r ≡ outcome_of t c)

-- what is counted before, and what comes of the rest
abbrev pub plus : ℕ → Result ℕ RunFault → Result ℕ RunFault
plus a (Ok n) = Ok (a + n)
plus a (Err e) = Err e

-- Tasks in order, up to the first that is stopped: what is answered is how many comparisons were done, or where it was stopped.
abbrev pub Tasks : {S X : Type 0} → Algebra X → (S → Meaning X) → List TermNode → List (List Line) → List ℕ → List Task → S → List ℕ → Result ℕ RunFault → S → List ℕ → Type 0
Tasks f m ts ps readings [] s slots r s' slots' = (r ≡ Ok 0) × (s' ≡ s) × (slots' ≡ slots)
Tasks {S} f m ts ps readings (t ∷ us) s slots r s' slots' =
    (c : Result ℕ RunFault) × (s₁ : S) × (slots₁ : List ℕ) × Does f m ts ps readings t s slots c s₁ slots₁
    × MatchResult c
    (λ a. (d : Result ℕ RunFault) × Tasks f m ts ps readings us s₁ slots₁ d s' slots' × (r ≡ plus a d))
    (λ e. (r ≡ Err e) × (s' ≡ s₁) × (slots' ≡ slots₁))
