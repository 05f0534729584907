-- What a run does and answers, and the law on runs.
use Rattle.std.specs.Prelude.{◌≡◌, ℕ, Bool, true, false, List, ◌++◌, length, Ok, Err, Result, MatchResult}
use Rattle.provider.specs.Algebra.{Algebra}
use Rattle.provider.specs.Meaning.{Meaning}
use Rattle.terms.specs.declared.node.TermNode.{TermNode}
use Rattle.scripts.specs.declared.instruction.Line.{Line}
use Rattle.acting.specs.declared.halt.Halt.{Halt}
use Rattle.acting.specs.declared.refusal.SessionRefusal.{SessionRefusal}
use Rattle.acting.specs.declared.refusal.SessionRefusal.TheVariants.{NoMemory}
use Rattle.acting.specs.Loading.{Loads}
use Rattle.acting.specs.Refusals.{halt_refusal}
use Rattle.acting.specs.Standing.{KeptOutside}
use Rattle.protocol.specs.declared.step.Step.{Step}
use Rattle.protocol.specs.States.{state_by}
use Rattle.runs.specs.declared.fault.Played.{Played}
use Rattle.runs.specs.declared.fault.RunFault.{RunFault}
use Rattle.runs.specs.declared.task.Task.{Task}
use Rattle.runs.specs.Memory.{base_of, enough}
use Rattle.runs.specs.Tasks.{start_tasks, step_tasks, Tasks}

-- the tasks of a run: every party is started, then every step is played
abbrev pub tasks_of : List TermNode → List (List Line) → List Step → List Task
tasks_of ts ps ss = start_tasks (state_by ts ps ss) (length ps) ++ step_tasks (state_by ts ps ss) 0 ss

-- what a run answers, from what came of its tasks: the number of all steps with the number of comparisons
abbrev pub played_of : ℕ → Result ℕ RunFault → Result Played RunFault
played_of n (Ok c) = Ok (record { steps = n; sames = c })
played_of n (Err e) = Err e

-- refused outside of all scripts, before the first step
abbrev pub early_fault : SessionRefusal → RunFault
early_fault x = record { refusal = x; step = 64; party = 0 }

-- a run with enough memory, whole: loading, then the tasks
abbrev pub Runs : {S X : Type 0} → Algebra X → (S → Meaning X) → List TermNode → List (List Line) → List Step → S → List ℕ → List ℕ → Result Played RunFault → S → List ℕ → List ℕ → Type 0
Runs {S} f m ts ps ss s readings slots r s' readings' slots' =
    (c : Result ℕ Halt) × (s₁ : S) × Loads f m ts s readings c s₁ readings'
    × MatchResult c
    (λ _. (d : Result ℕ RunFault) × Tasks f m ts ps readings' (tasks_of ts ps ss) s₁ slots d s' slots' × (r ≡ played_of (length ss) d))
    (λ h. (r ≡ Err (early_fault (halt_refusal h))) × (s' ≡ s₁) × (slots' ≡ slots))

-- with too little memory, nothing is done
pub record Refused {S : Type 0} (s : S) (readings slots : List ℕ) (r : Result Played RunFault) (s' : S) (readings' slots' : List ℕ) : Type 0 where
  pub answer : r ≡ Err (early_fault NoMemory)
  pub provider : s' ≡ s
  pub same_readings : readings' ≡ readings
  pub same_slots : slots' ≡ slots

-- a run, whole: refused for want of memory, or done
abbrev pub RanBy : {S X : Type 0} → Bool → Algebra X → (S → Meaning X) → List TermNode → List (List Line) → List Step → S → List ℕ → List ℕ → Result Played RunFault → S → List ℕ → List ℕ → Type 0
RanBy true f m ts ps ss s readings slots r s' readings' slots' = Runs f m ts ps ss s readings slots r s' readings' slots'
RanBy false f m ts ps ss s readings slots r s' readings' slots' = Refused s readings slots r s' readings' slots'

abbrev pub Ran : {S X : Type 0} → Algebra X → (S → Meaning X) → List TermNode → List (List Line) → List Step → S → List ℕ → List ℕ → Result Played RunFault → S → List ℕ → List ℕ → Type 0
Ran f m ts ps ss s readings slots r s' readings' slots' = RanBy (enough ts ps readings slots) f m ts ps ss s readings slots r s' readings' slots'

-- Whatever comes of a run: handles keep their values, and the readings and slots beyond those that it needs are as they were.
pub record RestKept {S X : Type 0} (m : S → Meaning X) (ts : List TermNode) (ps : List (List Line)) (s : S) (readings slots : List ℕ) (s' : S) (readings' slots' : List ℕ) : Type 0 where
  pub in_readings : KeptOutside m 0 (length ts) s readings s' readings'
  pub in_slots : KeptOutside m 0 (base_of ps (length ps)) s slots s' slots'
