-- What a loop over tasks keeps: whatever does what is left does the whole.
use Rattle.std.proofs.Common.{◌≡◌, ℕ, zero, suc, ◌+◌, ◌-◌, ◌<◌, ◌≤◌, min, List, [], ◌∷◌, ◌++◌, length, drop, IfOk, Some, Ok, Err, Result, sym, refl, ap, ◌∙◌, subst, add-zero, add_assoc, zero-add, add-one, arith, drop_of_length-le, MatchResult}
use Rattle.provider.specs.Algebra.{Algebra}
use Rattle.provider.specs.Meaning.{Meaning}
use Rattle.terms.specs.declared.node.TermNode.{TermNode}
use Rattle.scripts.specs.declared.instruction.Line.{Line}
use Rattle.rules.specs.State.{State, nth}
use Rattle.acting.specs.declared.halt.Halt.{Halt}
use Rattle.acting.specs.declared.instruction.Part.{Part}
use Rattle.acting.specs.Acts.{Acting}
use Rattle.acting.specs.Carrying.{line_act, line_tally, slot_from, between, CarriedOut}
use Rattle.acting.proofs.Lines.{drop_nth}
use Rattle.protocol.specs.declared.step.Step.{Step}
use Rattle.runs.specs.declared.fault.RunFault.{RunFault}
use Rattle.runs.specs.declared.task.Task.{Task}
use Rattle.runs.specs.Tasks.{start_task, starts_from, both_tasks, step_tasks, outcome_of, Does, plus, Tasks}

pub plus_zero : (r : Result ℕ RunFault) → plus 0 r ≡ r
plus_zero (Ok n) = ap Ok (zero-add n)
plus_zero (Err e) = refl

pub plus_plus : (a b : ℕ) (r : Result ℕ RunFault) → plus a (plus b r) ≡ plus (a + b) r
plus_plus a b (Ok n) = ap Ok (sym (add_assoc a b n))
plus_plus a b (Err e) = refl

-- at most 512 comparisons
pub few_outcome : (t : Task) (r : Result ℕ Halt) (o : Result ℕ RunFault) (Q : Halt → Type 0) → o ≡ outcome_of t r → MatchResult r (λ n. n ≤ 512) Q → IfOk o (λ n. n ≤ 512)
few_outcome t (Ok n) o Q e h = rw e h
few_outcome t (Err h) o Q e w = rw e tt

between_none : {A : Type 0} (start end : ℕ) → between {A = A} start end [] ≡ []
between_none zero zero = refl
between_none zero (suc end) = refl
between_none (suc start) zero = refl
between_none (suc start) (suc end) = refl

module _ {S X : Type 0} (f : Algebra X) (m : S → Meaning X) where
  -- a script without lines is carried out at once
  pub none_carried : (readings : List ℕ) (part : Part) (base : ℕ) (ls : List Line) (start end : ℕ) (s : S) (slots : List ℕ) → ls ≡ []
      → CarriedOut f m readings part base ls start end s slots (Ok 0) s slots
  none_carried readings part base ls start end s slots e =
      let q : between start (min end (length slots - base)) ls ≡ [] = ap (between start (min end (length slots - base))) e ∙ between_none start (min end (length slots - base)) in
      subst (λ (is : List Line). Acting f m (line_act readings part base) line_tally (slot_from base) is start 0 s slots (Ok 0) s slots) (sym q) (refl, refl, refl)

  pub carry_is : (readings : List ℕ) (part : Part) (base base' : ℕ) (ls ls' : List Line) (start end : ℕ) (s : S) (slots : List ℕ) (c : Result ℕ Halt) (s' : S) (slots' : List ℕ) → base ≡ base' → ls ≡ ls'
      → CarriedOut f m readings part base ls start end s slots c s' slots' → CarriedOut f m readings part base' ls' start end s slots c s' slots'
  carry_is readings part base base' ls ls' start end s slots c s' slots' e d a =
      subst (λ (b : ℕ). CarriedOut f m readings part b ls' start end s slots c s' slots') e
      (subst (λ (l : List Line). CarriedOut f m readings part base l start end s slots c s' slots') d a)

  module _ (ts : List TermNode) (ps : List (List Line)) (readings : List ℕ) where
    abbrev Doing : List Task → S → List ℕ → Result ℕ RunFault → S → List ℕ → Type 0
    Doing us s slots r s' slots' = Tasks f m ts ps readings us s slots r s' slots'

    abbrev One : Task → S → List ℕ → Result ℕ RunFault → S → List ℕ → Type 0
    One t s slots r s' slots' = Does f m ts ps readings t s slots r s' slots'

    -- tasks, and tasks after them
    pub tasks_then : (ks us : List Task) (s : S) (slots : List ℕ) (a : ℕ) (s₁ : S) (slots₁ : List ℕ) (d : Result ℕ RunFault) (s' : S) (slots' : List ℕ)
        → Doing ks s slots (Ok a) s₁ slots₁ → Doing us s₁ slots₁ d s' slots' → Doing (ks ++ us) s slots (plus a d) s' slots'
    tasks_then [] us s slots a s₁ slots₁ d s' slots' w v =
        let z : a ≡ 0 = cc in
        let e : plus a d ≡ d = ap (λ n. plus n d) z ∙ plus_zero d in
        rw e (subst (λ (x : S). Doing us x slots d s' slots') w.1 (subst (λ (x : List ℕ). Doing us s₁ x d s' slots') w.2 v))
    tasks_then (t ∷ ks) us s slots a s₁ slots₁ d s' slots' (Ok b, s₂, slots₂, h, (Ok n, w, e)) v =
        let z : a ≡ b + n = cc in
        let q : plus a d ≡ plus b (plus n d) = ap (λ k. plus k d) z ∙ sym (plus_plus b n d) in
        (Ok b, s₂, slots₂, h, (plus n d, tasks_then ks us s₂ slots₂ n s₁ slots₁ d s' slots' w v, q))
    tasks_then (t ∷ ks) us s slots a s₁ slots₁ d s' slots' (Ok b, s₂, slots₂, h, (Err x, w, e)) v = let z : ◌≡◌ {A = ℕ} 0 1 = cc in absurd (omega arith)
    tasks_then (t ∷ ks) us s slots a s₁ slots₁ d s' slots' (Err x, s₂, slots₂, h, w) v = let p = w.0 in let z : ◌≡◌ {A = ℕ} 0 1 = cc in absurd (omega arith)

    -- what is stopped stops what would come after it
    pub tasks_stop : (ks us : List Task) (s : S) (slots : List ℕ) (x : RunFault) (s₁ : S) (slots₁ : List ℕ) → Doing ks s slots (Err x) s₁ slots₁ → Doing (ks ++ us) s slots (Err x) s₁ slots₁
    tasks_stop [] us s slots x s₁ slots₁ w = let p = w.0 in let z : ◌≡◌ {A = ℕ} 0 1 = cc in absurd (omega arith)
    tasks_stop (t ∷ ks) us s slots x s₁ slots₁ (Ok b, s₂, slots₂, h, (Ok n, w, e)) = let z : ◌≡◌ {A = ℕ} 0 1 = cc in absurd (omega arith)
    tasks_stop (t ∷ ks) us s slots x s₁ slots₁ (Ok b, s₂, slots₂, h, (Err y, w, e)) =
        let z : x ≡ y = cc in
        (Ok b, s₂, slots₂, h, (Err x, tasks_stop ks us s₂ slots₂ x s₁ slots₁ (subst (λ (q : RunFault). Doing ks s₂ slots₂ (Err q) s₁ slots₁) (sym z) w), refl))
    tasks_stop (t ∷ ks) us s slots x s₁ slots₁ (Err y, s₂, slots₂, h, w) = (Err y, s₂, slots₂, h, w)

    -- one task, done
    pub one_done : (t u : Task) (s : S) (slots : List ℕ) (a : ℕ) (s₁ : S) (slots₁ : List ℕ) → t ≡ u → One t s slots (Ok a) s₁ slots₁ → Doing (u ∷ []) s slots (Ok a) s₁ slots₁
    one_done t u s slots a s₁ slots₁ e h = (Ok a, s₁, slots₁, subst (λ (x : Task). One x s slots (Ok a) s₁ slots₁) e h, (Ok 0, (refl, refl, refl), ap Ok (sym (add-zero a))))

    -- one task, stopped
    pub one_stop : (t u : Task) (s : S) (slots : List ℕ) (x : RunFault) (s₁ : S) (slots₁ : List ℕ) → t ≡ u → One t s slots (Err x) s₁ slots₁ → Doing (u ∷ []) s slots (Err x) s₁ slots₁
    one_stop t u s slots x s₁ slots₁ e h = (Err x, s₁, slots₁, subst (λ (y : Task). One y s slots (Err x) s₁ slots₁) e h, (refl, refl, refl))

    -- two tasks
    pub two_done : (t u : Task) (t' u' : Task) (s : S) (slots : List ℕ) (a : ℕ) (s₁ : S) (slots₁ : List ℕ) (b : ℕ) (s₂ : S) (slots₂ : List ℕ)
        → t' ≡ t → u' ≡ u → One t' s slots (Ok a) s₁ slots₁ → One u' s₁ slots₁ (Ok b) s₂ slots₂ → Doing (t ∷ u ∷ []) s slots (Ok (a + b)) s₂ slots₂
    two_done t u t' u' s slots a s₁ slots₁ b s₂ slots₂ e d h k =
        tasks_then (t ∷ []) (u ∷ []) s slots a s₁ slots₁ (Ok b) s₂ slots₂ (one_done t' t s slots a s₁ slots₁ e h) (one_done u' u s₁ slots₁ b s₂ slots₂ d k)

    pub two_stop : (t u : Task) (t' u' : Task) (s : S) (slots : List ℕ) (a : ℕ) (s₁ : S) (slots₁ : List ℕ) (x : RunFault) (s₂ : S) (slots₂ : List ℕ)
        → t' ≡ t → u' ≡ u → One t' s slots (Ok a) s₁ slots₁ → One u' s₁ slots₁ (Err x) s₂ slots₂ → Doing (t ∷ u ∷ []) s slots (Err x) s₂ slots₂
    two_stop t u t' u' s slots a s₁ slots₁ x s₂ slots₂ e d h k =
        tasks_then (t ∷ []) (u ∷ []) s slots a s₁ slots₁ (Err x) s₂ slots₂ (one_done t' t s slots a s₁ slots₁ e h) (one_stop u' u s₁ slots₁ x s₂ slots₂ d k)

-- what does the tasks us, n comparisons being counted, does the whole from its beginning
pub record Rest {S X : Type 0} (f : Algebra X) (m : S → Meaning X) (ts : List TermNode) (ps : List (List Line)) (readings : List ℕ) (us : List Task) (n : ℕ) (s : S) (slots : List ℕ)
    (all : List Task) (s₀ : S) (slots₀ : List ℕ) : Type 0 where
  pub does : (r : Result ℕ RunFault) (s' : S) (slots' : List ℕ) → Tasks f m ts ps readings us s slots r s' slots' → Tasks f m ts ps readings all s₀ slots₀ (plus n r) s' slots'

pub rest_all : {S X : Type 0} (f : Algebra X) (m : S → Meaning X) (ts : List TermNode) (ps : List (List Line)) (readings : List ℕ) (us all : List Task) (s : S) (slots : List ℕ) → us ≡ all
    → Rest f m ts ps readings us 0 s slots all s slots
rest_all f m ts ps readings us all s slots e = record { does = λ r s' slots' w. rw (plus_zero r) (subst (λ (x : List Task). Tasks f m ts ps readings x s slots r s' slots') e w) }

module _ {S X : Type 0} {f : Algebra X} {m : S → Meaning X} {ts : List TermNode} {ps : List (List Line)} {readings : List ℕ} {vs : List Task} {n : ℕ} {s : S} {slots : List ℕ}
    {all : List Task} {s₀ : S} {slots₀ : List ℕ} (rest : Rest f m ts ps readings vs n s slots all s₀ slots₀) where
  -- the tasks ks come next
  module _ (ks us : List Task) (e : vs ≡ ks ++ us) where
    pub rest_more : (a : ℕ) (s₁ : S) (slots₁ : List ℕ) → Tasks f m ts ps readings ks s slots (Ok a) s₁ slots₁ → Rest f m ts ps readings us (n + a) s₁ slots₁ all s₀ slots₀
    rest_more a s₁ slots₁ h =
        record {
          does = λ r s' slots' w. rw (sym (plus_plus n a r))
              (rest.does (plus a r) s' slots' (subst (λ (x : List Task). Tasks f m ts ps readings x s slots (plus a r) s' slots') (sym e) (tasks_then f m ts ps readings ks us s slots a s₁ slots₁ r s' slots' h w)));
        }

    pub rest_stop : (x : RunFault) (s₁ : S) (slots₁ : List ℕ) → Tasks f m ts ps readings ks s slots (Err x) s₁ slots₁ → Tasks f m ts ps readings all s₀ slots₀ (Err x) s₁ slots₁
    rest_stop x s₁ slots₁ h = rest.does (Err x) s₁ slots₁ (subst (λ (y : List Task). Tasks f m ts ps readings y s slots (Err x) s₁ slots₁) (sym e) (tasks_stop f m ts ps readings ks us s slots x s₁ slots₁ h))

  pub rest_end : vs ≡ [] → Tasks f m ts ps readings all s₀ slots₀ (Ok n) s slots
  rest_end e =
      subst (λ (k : ℕ). Tasks f m ts ps readings all s₀ slots₀ (Ok k) s slots) (add-zero n)
      (rest.does (Ok 0) s slots (subst (λ (x : List Task). Tasks f m ts ps readings x s slots (Ok 0) s slots) (sym e) (refl, refl, refl)))

-- the starts of the parties from p on
pub starts_more : (st : State) (n p : ℕ) → p < n → starts_from st p (n - p) ≡ (start_task st p ∷ []) ++ starts_from st (p + 1) (n - (p + 1))
starts_more st n p l = let z : n - p ≡ suc (n - (p + 1)) = omega arith in rw z refl

pub starts_end : (st : State) (n p : ℕ) → n ≤ p → starts_from st p (n - p) ≡ []
starts_end st n p l = let z : n - p ≡ 0 = omega arith in rw z refl

-- the tasks of the steps from l on
pub steps_more : (st : State) (ss : List Step) (l : ℕ) (x : Step) → nth ss l ≡ Some x → step_tasks st l (drop l ss) ≡ both_tasks st l x ++ step_tasks st (l + 1) (drop (l + 1) ss)
steps_more st ss l x e = ap (step_tasks st l) (drop_nth ss l x e) ∙ rw add-one refl

pub steps_end : (st : State) (ss : List Step) (l : ℕ) → length ss ≤ l → step_tasks st l (drop l ss) ≡ []
steps_end st ss l h = ap (step_tasks st l) (drop_of_length-le ss h)
