-- What a run leaves as it was.
use Rattle.std.proofs.Common.{◌≡◌, ℕ, ◌+◌, ◌<◌, ◌≤◌, Bool, true, false, ◌⊎◌, List, [], ◌∷◌, length, get_or, Ok, Err, Result, refl, ◌∙◌, inl, inr, arith}
use mathlib.Core.Logic.{∥∥₁_elim}
use native.Mathlib.Nat.{ℕ_set}
use Rattle.provider.specs.Algebra.{Algebra}
use Rattle.provider.specs.Meaning.{Meaning, Kept}
use Rattle.terms.specs.declared.node.TermNode.{TermNode}
use Rattle.scripts.specs.declared.instruction.Line.{Line}
use Rattle.acting.specs.Standing.{KeptOutside}
use Rattle.acting.proofs.Nodes.{load_keeps}
use Rattle.acting.proofs.Parts.{part_keeps}
use Rattle.protocol.specs.declared.step.Step.{Step}
use Rattle.protocol.specs.Reached.{Reached}
use Rattle.protocol.specs.States.{state_by}
use Rattle.runs.specs.declared.fault.Played.{Played}
use Rattle.runs.specs.declared.fault.RunFault.{RunFault}
use Rattle.runs.specs.declared.task.Task.{Task}
use Rattle.runs.specs.Memory.{lines_at, base_of, enough}
use Rattle.runs.specs.Tasks.{Does, Tasks}
use Rattle.runs.specs.Runs.{tasks_of, Runs, RanBy, Ran, RestKept}
use Rattle.runs.proofs.Bases.{own_party, base_above}
use Rattle.runs.proofs.Standing.{after, TaskFits, AllFit}
use Rattle.runs.proofs.Fitting.{all_fit}
use Rattle.runs.proofs.Right.{wrote, some_agent}

module _ {S X : Type 0} (f : Algebra X) (m : S → Meaning X) (ts : List TermNode) (ps : List (List Line)) where
  -- what tasks keep; where they fit, every slot past those of the parties too
  record Keeping (us : List Task) (E : ℕ → ℕ) (s : S) (slots : List ℕ) (s' : S) (slots' : List ℕ) : Type 0 where
    pub kept : Kept (m s).issued (m s').issued
    pub long : length slots' ≡ length slots
    pub past : AllFit ts ps E us → (j : ℕ) → base_of ps (length ps) ≤ j → get_or slots' j 0 ≡ get_or slots j 0

  module _ (readings : List ℕ) where
    one_keeps : (t : Task) (s : S) (slots : List ℕ) (r : Result ℕ RunFault) (s' : S) (slots' : List ℕ) → Does f m ts ps readings t s slots r s' slots'
        → KeptOutside m (base_of ps t.party + t.start) (base_of ps t.party + t.end) s slots s' slots'
    one_keeps t s slots r s' slots' (part, c, h, a, e) = part_keeps f m readings part (base_of ps t.party) (lines_at ps t.party) t.start t.end s slots c s' slots' a

    one_past : (t : Task) (E : ℕ → ℕ) → TaskFits ts ps E t → (j : ℕ) → base_of ps (length ps) ≤ j → base_of ps t.party + t.end ≤ j
    one_past t E w j l =
        let a = base_above ps t.party (length ps) w.below in
        let b = own_party ps t.party w.from in
        omega (arith, w.inside)

    tasks_keep : (us : List Task) (E : ℕ → ℕ) (s : S) (slots : List ℕ) (r : Result ℕ RunFault) (s' : S) (slots' : List ℕ) → Tasks f m ts ps readings us s slots r s' slots' → Keeping us E s slots s' slots'
    tasks_keep [] E s slots r s' slots' a = rw (a.1, a.2) (record { kept = λ h x e. e; long = refl; past = λ w j l. refl })
    tasks_keep (t ∷ us) E s slots r s' slots' (Err x, s₁, slots₁, h, w) =
        let d = one_keeps t s slots (Err x) s₁ slots₁ h in
        rw (w.1, w.2) (record { kept = d.kept; long = d.long; past = λ v j l. d.outside j (inr (one_past t E v.0 j l)) })
    tasks_keep (t ∷ us) E s slots r s' slots' (Ok n, s₁, slots₁, h, (c, w, e)) =
        let d = one_keeps t s slots (Ok n) s₁ slots₁ h in
        let k = tasks_keep us (after E t) s₁ slots₁ c s' slots' w in
        record {
          kept = λ h x q. k.kept h x (d.kept h x q);
          long = k.long ∙ d.long;
          past = λ v j l. k.past v.1 j l ∙ d.outside j (inr (one_past t E v.0 j l));
        }

  module _ (ss : List Step) (s : S) (readings slots : List ℕ) (r : Result Played RunFault) (s' : S) (readings' slots' : List ℕ) where
    runs_keep : Runs f m ts ps ss s readings slots r s' readings' slots' → Reached (state_by ts ps ss) → RestKept m ts ps s readings slots s' readings' slots'
    runs_keep (Err x, s₁, ld, w) reached =
        let d = load_keeps f m ts s readings (Err x) s₁ readings' ld in
        rw (w.1, w.2) (record { in_readings = d; in_slots = record { kept = d.kept; outside = λ j o. refl; long = refl } })
    runs_keep (Ok c, s₁, ld, (e, w, q)) reached =
        let d = load_keeps f m ts s readings (Ok c) s₁ readings' ld in
        let k = tasks_keep readings' (tasks_of ts ps ss) (λ p. 0) s₁ slots e s' slots' w in
        record {
          in_readings = record { kept = λ h x z. k.kept h x (d.kept h x z); outside = d.outside; long = d.long };
          in_slots = record {
            kept = λ h x z. k.kept h x (d.kept h x z);
            outside = λ j o. ∥∥₁_elim reached (ℕ_set (get_or slots' j 0) (get_or slots j 0)) (λ z. k.past (all_fit ts ps ss (wrote ts ps ss z.0 z.1) (some_agent ts ps ss z.0 z.1)) j (above j o));
            long = k.long;
          };
        }
      where
        above : (j : ℕ) → (j < 0) ⊎ (base_of ps (length ps) ≤ j) → base_of ps (length ps) ≤ j
        above j (inl l) = absurd (omega arith)
        above j (inr l) = l

    run_keeps_by : (b : Bool) → RanBy b f m ts ps ss s readings slots r s' readings' slots' → Reached (state_by ts ps ss) → RestKept m ts ps s readings slots s' readings' slots'
    run_keeps_by true w reached = runs_keep w reached
    run_keeps_by false w reached =
        rw (w.provider, w.same_readings, w.same_slots)
        (record { in_readings = record { kept = λ h x e. e; outside = λ j o. refl; long = refl }; in_slots = record { kept = λ h x e. e; outside = λ j o. refl; long = refl } })

    -- whatever comes of a run of a protocol that came about by calls, the rest is kept
    pub run_keeps : Ran f m ts ps ss s readings slots r s' readings' slots' → Reached (state_by ts ps ss) → RestKept m ts ps s readings slots s' readings' slots'
    run_keeps w reached = run_keeps_by (enough ts ps readings slots) w reached
