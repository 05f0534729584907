-- What is said of runs, said of a protocol as it stands.
use Rattle.std.specs.Prelude.{ℕ, List, length, Result}
use Rattle.provider.specs.Algebra.{Algebra}
use Rattle.provider.specs.Meaning.{Meaning}
use Rattle.terms.specs.Listed.{listed}
use Rattle.protocol.specs.declared.protocol.Protocol.{Protocol}
use Rattle.protocol.specs.View.{lines_of, steps_of, view_of}
use Rattle.runs.specs.declared.fault.Played.{Played}
use Rattle.runs.specs.declared.fault.RunFault.{RunFault}
use Rattle.runs.specs.declared.task.Task.{Task}
use Rattle.runs.specs.Law.{RunLaw}
use Rattle.runs.specs.Memory.{Enough}
use Rattle.runs.specs.Runs.{Runs, Ran, RestKept}
use Rattle.runs.specs.Tasks.{start_tasks, step_tasks, Does, Tasks}

-- the starts of all its parties, and the parts of all its steps
abbrev pub starts_of : Protocol → List Task
starts_of p = start_tasks (view_of p) (length (lines_of p))

abbrev pub steps_tasks_of : Protocol → List Task
steps_tasks_of p = step_tasks (view_of p) 0 (steps_of p)

abbrev pub EnoughOf : Protocol → List ℕ → List ℕ → Type 0
EnoughOf p readings slots = Enough (listed p.terms) (lines_of p) readings slots

abbrev pub DoesOf : {S X : Type 0} → Algebra X → (S → Meaning X) → Protocol → List ℕ → Task → S → List ℕ → Result ℕ RunFault → S → List ℕ → Type 0
DoesOf f m p readings t s slots r s' slots' = Does f m (listed p.terms) (lines_of p) readings t s slots r s' slots'

abbrev pub TasksOf : {S X : Type 0} → Algebra X → (S → Meaning X) → Protocol → List ℕ → List Task → S → List ℕ → Result ℕ RunFault → S → List ℕ → Type 0
TasksOf f m p readings us s slots r s' slots' = Tasks f m (listed p.terms) (lines_of p) readings us s slots r s' slots'

abbrev pub RunsOf : {S X : Type 0} → Algebra X → (S → Meaning X) → Protocol → S → List ℕ → List ℕ → Result Played RunFault → S → List ℕ → List ℕ → Type 0
RunsOf f m p s readings slots r s' readings' slots' = Runs f m (listed p.terms) (lines_of p) (steps_of p) s readings slots r s' readings' slots'

abbrev pub RanOf : {S X : Type 0} → Algebra X → (S → Meaning X) → Protocol → S → List ℕ → List ℕ → Result Played RunFault → S → List ℕ → List ℕ → Type 0
RanOf f m p s readings slots r s' readings' slots' = Ran f m (listed p.terms) (lines_of p) (steps_of p) s readings slots r s' readings' slots'

abbrev pub RestKeptOf : {S X : Type 0} → (S → Meaning X) → Protocol → S → List ℕ → List ℕ → S → List ℕ → List ℕ → Type 0
RestKeptOf m p s readings slots s' readings' slots' = RestKept m (listed p.terms) (lines_of p) s readings slots s' readings' slots'

abbrev pub RunLawOf : {S X : Type 0} → Algebra X → (S → Meaning X) → Protocol → List ℕ → List ℕ → Result Played RunFault → S → List ℕ → List ℕ → Type 0
RunLawOf f m p readings slots r s' readings' slots' = RunLaw f m (listed p.terms) (lines_of p) (steps_of p) readings slots r s' readings' slots'
