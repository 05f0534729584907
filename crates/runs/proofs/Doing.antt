-- Tasks that fit, one after the other: what stands after them, and where they are stopped.
use Rattle.std.proofs.Common.{◌≡◌, ℕ, ◌+◌, ◌<◌, ◌≤◌, ◌⊎◌, List, [], ◌∷◌, length, Ok, Err, Result, sym, refl, ap, ◌∙◌, subst, inl, inr, arith, MatchResult}
use Rattle.std.proofs.lemmas.Bool.{cases_eq}
use Rattle.deduction.specs.Term.{Term}
use Rattle.provider.specs.Algebra.{Algebra}
use Rattle.provider.specs.Meaning.{Meaning, Kept, Holds}
use Rattle.terms.specs.declared.node.TermNode.{TermNode}
use Rattle.terms.specs.Tree.{tree}
use Rattle.scripts.specs.declared.instruction.Line.{Line}
use Rattle.scripts.specs.Lines.{script_of}
use Rattle.scripts.specs.Composing.{AllNamed}
use Rattle.valuation.specs.Fit.{Fits, Settled}
use Rattle.valuation.specs.Law.{Lawful}
use Rattle.acting.specs.declared.halt.Halt.{Halt}
use Rattle.acting.specs.declared.instruction.Part.{Part}
use Rattle.acting.specs.Carrying.{line_act, between, CarriedOut}
use Rattle.acting.specs.Refusals.{halt_refusal}
use Rattle.acting.specs.Standing.{Loaded, NoRoom, KeptOutside, Ready, comparisons}
use Rattle.acting.proofs.Parts.{loaded_kept, standing_kept, part_stands, part_keeps}
use Rattle.protocol.specs.States.{trees}
use Rattle.protocol.proofs.Trees.{in_trees}
use Rattle.runs.specs.declared.fault.RunFault.{RunFault}
use Rattle.runs.specs.declared.task.Task.{Task}
use Rattle.runs.specs.Memory.{lines_at, base_of}
use Rattle.runs.specs.Tasks.{Hands, outcome_of, Does, plus, Tasks}
use Rattle.runs.proofs.Bases.{own_party, base_above}
use Rattle.runs.proofs.Standing.{after, after_own, after_other, TaskFits, AllFit, sames_in, slots_apart, slot_terms, PartyStands, AllStand, role_handed}

module _ {S X : Type 0} (f : Algebra X) (m : S → Meaning X) (ts : List TermNode) (ps : List (List Line)) (readings : List ℕ) where
  -- the slots of a task stand for the values of their terms
  abbrev pub TaskDone : S → List ℕ → Task → Type 0
  TaskDone s slots t = PartyStands ts ps f (m s).issued t.party t.end slots

  abbrev pub AllDone : S → List ℕ → List Task → Type 0
  AllDone s slots [] = Unit {0}
  AllDone s slots (t ∷ us) = TaskDone s slots t × AllDone s slots us

  -- a task was stopped by Full, where the making that the named line asks for does not fit
  pub record StoppedAt (s : S) (slots : List ℕ) (e : RunFault) (t : Task) : Type 0 where
    pub halt : Halt
    pub part : Part
    pub named : e ≡ record { refusal = halt_refusal halt; step = t.step; party = t.party }
    pub low : t.start ≤ halt.at
    pub high : halt.at < t.end
    pub no_room : NoRoom m (line_act readings part (base_of ps t.party)) (lines_at ps t.party) s slots halt

  -- one of the tasks was stopped, and those before it are done
  abbrev pub Stopped : S → List ℕ → RunFault → List Task → Type 0
  Stopped s slots e [] = ⊥
  Stopped s slots e (t ∷ us) = StoppedAt s slots e t ⊎ (TaskDone s slots t × Stopped s slots e us)

  -- what comes of tasks, E saying how far scripts were done before them
  pub record Comes (us : List Task) (E : ℕ → ℕ) (s : S) (slots : List ℕ) (r : Result ℕ RunFault) (s' : S) (slots' : List ℕ) : Type 0 where
    pub kept : Kept (m s).issued (m s').issued
    pub env : AllStand ts ps f (m s').issued E slots'
    pub ends : MatchResult r (λ c. (c ≡ sames_in ts ps us) × AllDone s' slots' us) (λ e. Stopped s' slots' e us)

  module _ {P : X → Type 0} (law : Lawful P f) (holds : (s : S) → Holds P (m s)) (settled : Settled (trees ts)) (known : (p : ℕ) → AllNamed (length ts) (lines_at ps p))
      (fits : (p : ℕ) → p < length ps → Fits (trees ts) (script_of (tree ts) (lines_at ps p))) where
    abbrev T : ℕ → Term
    T = tree ts

    module _ (t : Task) (E : ℕ → ℕ) (fit : TaskFits ts ps E t) (s : S) (slots : List ℕ) where
      -- what stands after a task stood before it, and all of the task stands
      env_before : AllStand ts ps f (m s).issued (after E t) slots → AllStand ts ps f (m s).issued E slots
      env_before w p u v = go (cases_eq t.party p)
        where
          go : (t.party ≡ p) ⊎ (t.party ≡ p → ⊥) → (E p ≤ length (lines_at ps p)) × PartyStands ts ps f (m s).issued p (E p) slots
          go (inl e) =
              let q : after E t p ≡ t.end = after_own E t p e in
              let b : E p ≡ t.start = sym (ap E e) ∙ fit.ready in
              (omega (arith, (w p u v).0, fit.order), λ k l. (w p u v).1 k (omega (arith, fit.order)))
          go (inr n) = rw (after_other E t p n) at (w p u v)

      env_done : AllStand ts ps f (m s).issued (after E t) slots → TaskDone s slots t
      env_done w = subst (λ (k : ℕ). PartyStands ts ps f (m s).issued t.party k slots) (after_own E t t.party refl) (w t.party fit.from fit.below).1

    module _ (t : Task) (E : ℕ → ℕ) (fit : TaskFits ts ps E t) (s : S) (slots : List ℕ) (room : base_of ps (length ps) ≤ length slots) (loaded : Loaded f (m s).issued T (length ts) readings) (env : AllStand ts ps f (m s).issued E slots) where
      abbrev ls : List Line
      ls = lines_at ps t.party

      abbrev base : ℕ
      base = base_of ps t.party

      enough_room : base + t.end ≤ length slots
      enough_room =
          let a = base_above ps t.party (length ps) fit.below in
          let b = own_party ps t.party fit.from in
          omega (arith, fit.inside)

      ready : (part : Part) → Hands ts ps readings slots t.role part → Ready f (m s).issued T (length ts) readings part base ls t.start t.end slots
      ready part h =
          record {
            begins = fit.order;
            lines = fit.inside;
            room = enough_room;
            loaded = loaded;
            before = subst (λ (k : ℕ). PartyStands ts ps f (m s).issued t.party k slots) fit.ready (env t.party fit.from fit.below).1;
            handed = role_handed ts ps f (m s).issued readings loaded E slots env t.role part ls t.start t.end fit.role_fits h;
          }

      -- what was done before it goes on standing, whatever comes of the task
      env_stays : (s₁ : S) (slots₁ : List ℕ) → KeptOutside m (base + t.start) (base + t.end) s slots s₁ slots₁ → AllStand ts ps f (m s₁).issued E slots₁
      env_stays s₁ slots₁ k p u v =
          let w = env p u v in
          (w.0, standing_kept f T (m s).issued (m s₁).issued k.kept (slot_terms ts ps p) (base_of ps p) slots slots₁ (E p) (λ j l. k.outside (base_of ps p + j) (away p u v j l (cases_eq p t.party))) w.1)
        where
          away : (p : ℕ) → 1 ≤ p → p < length ps → (j : ℕ) → j < E p → (p ≡ t.party) ⊎ (p ≡ t.party → ⊥) → (base_of ps p + j < base + t.start) ⊎ (base + t.end ≤ base_of ps p + j)
          away p u v j l (inl e) =
              let q : E p ≡ t.start = ap E e ∙ fit.ready in
              let b : base_of ps p ≡ base = ap (base_of ps) e in
              inl (omega arith)
          away p u v j l (inr d) = slots_apart ts ps p t.party u fit.from d j t.start t.end (omega (arith, (env p u v).0)) fit.inside

      env_grows : (s₁ : S) (slots₁ : List ℕ) → AllStand ts ps f (m s₁).issued E slots₁ → TaskDone s₁ slots₁ t → AllStand ts ps f (m s₁).issued (after E t) slots₁
      env_grows s₁ slots₁ w d p u v = go (cases_eq t.party p)
        where
          go : (t.party ≡ p) ⊎ (t.party ≡ p → ⊥) → (after E t p ≤ length (lines_at ps p)) × PartyStands ts ps f (m s₁).issued p (after E t p) slots₁
          go (inl e) =
              rw (after_own E t p e) (subst (λ (q : ℕ). (t.end ≤ length (lines_at ps q)) × PartyStands ts ps f (m s₁).issued q t.end slots₁) e (fit.inside, d))
          go (inr n) = rw (after_other E t p n) (w p u v)

      abbrev OneEnds : Result ℕ RunFault → S → List ℕ → Type 0
      OneEnds r s₁ slots₁ = MatchResult r (λ c. (c ≡ comparisons (between t.start t.end ls)) × TaskDone s₁ slots₁ t) (λ e. StoppedAt s₁ slots₁ e t)

      one_ends : (r : Result ℕ RunFault) (s₁ : S) (slots₁ : List ℕ) → Does f m ts ps readings t s slots r s₁ slots₁ → KeptOutside m (base + t.start) (base + t.end) s slots s₁ slots₁ × OneEnds r s₁ slots₁
      one_ends r s₁ slots₁ (part, c, h, a, e) =
          (part_keeps f m readings part base ls t.start t.end s slots c s₁ slots₁ a, go c a e)
        where
          go : (c : Result ℕ Halt) → CarriedOut f m readings part base ls t.start t.end s slots c s₁ slots₁ → r ≡ outcome_of t c → OneEnds r s₁ slots₁
          go (Ok n) a e =
              rw e (part_stands law m holds readings part base ls t.start t.end s slots (Ok n) s₁ slots₁ a T (length ts) (trees ts) settled (in_trees ts) (known t.party) (fits t.party fit.below) (ready part h))
          go (Err x) a e =
              let w = part_stands law m holds readings part base ls t.start t.end s slots (Err x) s₁ slots₁ a T (length ts) (trees ts) settled (in_trees ts) (known t.party) (fits t.party fit.below) (ready part h) in
              rw e (record { halt = x; part = part; named = refl; low = w.0; high = w.1; no_room = w.2 })

    -- tasks that fit
    pub tasks_stand : (us : List Task) (E : ℕ → ℕ) → AllFit ts ps E us → (s : S) (slots : List ℕ) → base_of ps (length ps) ≤ length slots → Loaded f (m s).issued T (length ts) readings → AllStand ts ps f (m s).issued E slots
        → (r : Result ℕ RunFault) (s' : S) (slots' : List ℕ) → Tasks f m ts ps readings us s slots r s' slots' → Comes us E s slots r s' slots'
    tasks_stand [] E fit s slots room loaded env r s' slots' a = rw (a.0, a.1, a.2) (record { kept = λ h x e. e; env = env; ends = (refl, tt) })
    tasks_stand (t ∷ us) E fit s slots room loaded env r s' slots' (Err x, s₁, slots₁, h, w) =
        let d = one_ends t E fit.0 s slots room loaded env (Err x) s₁ slots₁ h in
        rw (w.0, w.1, w.2) (record { kept = d.0.kept; env = env_stays t E fit.0 s slots room loaded env s₁ slots₁ d.0; ends = inl d.1 })
    tasks_stand (t ∷ us) E fit s slots room loaded env r s' slots' (Ok n, s₁, slots₁, h, w) =
        let d = one_ends t E fit.0 s slots room loaded env (Ok n) s₁ slots₁ h in
        let env₁ = env_grows t E fit.0 s slots room loaded env s₁ slots₁ (env_stays t E fit.0 s slots room loaded env s₁ slots₁ d.0) d.1.1 in
        let v = tasks_stand us (after E t) fit.1 s₁ slots₁ (omega (arith, d.0.long)) (loaded_kept f T (m s).issued (m s₁).issued d.0.kept (length ts) readings loaded) env₁ w.0 s' slots' w.1 in
        rest d w.0 w.2 v
      where
        rest : KeptOutside m (base_of ps t.party + t.start) (base_of ps t.party + t.end) s slots s₁ slots₁ × ((n ≡ comparisons (between t.start t.end (lines_at ps t.party))) × TaskDone s₁ slots₁ t)
            → (c : Result ℕ RunFault) → r ≡ plus n c → Comes us (after E t) s₁ slots₁ c s' slots' → Comes (t ∷ us) E s slots r s' slots'
        rest d (Ok k) e v =
            let sum : n + k ≡ comparisons (between t.start t.end (lines_at ps t.party)) + sames_in ts ps us = omega (arith, d.1.0, v.ends.0) in
            rw e (record { kept = λ h x y. v.kept h x (d.0.kept h x y); env = env_before t E fit.0 s' slots' v.env; ends = (sum, (env_done t E fit.0 s' slots' v.env, v.ends.1)) })
        rest d (Err x) e v =
            rw e (record { kept = λ h z y. v.kept h z (d.0.kept h z y); env = env_before t E fit.0 s' slots' v.env; ends = inr (env_done t E fit.0 s' slots' v.env, v.ends) })
