-- The law on runs, from what the tasks do.
use Rattle.std.proofs.Common.{◌≡◌, ℕ, zero, suc, ◌+◌, ◌-◌, ◌<◌, ◌≤◌, Bool, true, false, ◌&&◌, leb, ◌⊎◌, List, [], ◌∷◌, ◌++◌, length, get_or, Some, None, Ok, Err, Option, Result, sym, refl, ap, ◌∙◌, subst, inl, inr, arith, MatchResult}
use Rattle.std.proofs.lemmas.List.{length-map}
use Rattle.std.proofs.lemmas.Bool.{and_parts, and_from, ltb-true, leb-true, le-leb}
use Rattle.deduction.specs.Term.{Term}
use Rattle.provider.specs.declared.ProviderError.{ProviderError}
use Rattle.provider.specs.declared.ProviderError.TheVariants.{Full}
use Rattle.provider.specs.Algebra.{Algebra}
use Rattle.provider.specs.Meaning.{Meaning, Holds}
use Rattle.terms.specs.declared.node.Kind.TheVariants.{Party}
use Rattle.terms.specs.declared.node.TermNode.{TermNode}
use Rattle.terms.specs.declared.node.TermNode.TheVariants.{Name}
use Rattle.terms.specs.Node.{node_at}
use Rattle.terms.specs.Tree.{kind_of, tree, Orderly}
use Rattle.terms.proofs.Trees.{tree_at}
use Rattle.scripts.specs.declared.instruction.Instruction.{Instruction}
use Rattle.scripts.specs.declared.instruction.Instruction.TheVariants.{Given, Fresh, From, To, Recv, Mate, Left, Right, Join, Seal, Digest, Entry, Open, Same, Send}
use Rattle.scripts.specs.declared.instruction.Line.{Line}
use Rattle.scripts.specs.Lines.{script_of}
use Rattle.scripts.specs.Composing.{Below, OpBelow, AllNamed}
use Rattle.rules.specs.State.{State, nth}
use Rattle.rules.specs.History.{History, Came, Stands}
use Rattle.rules.proofs.Law.{came_stable}
use Rattle.rules.proofs.Nth.{some_is, nth_at, nth_below}
use Rattle.valuation.specs.Fit.{at, terms_of, Fits}
use Rattle.valuation.specs.Law.{Lawful}
use Rattle.valuation.proofs.States.{terms_settled, scripts_fit}
use Rattle.parts.specs.Granted.{granted}
use Rattle.parts.specs.Law.{Wrote}
use Rattle.parts.specs.Limits.{WithinLimits}
use Rattle.parts.specs.Sames.{sames_of}
use Rattle.parts.proofs.Granted.{steps_are_granted}
use Rattle.parts.proofs.Law.{steps_wrote}
use Rattle.parts.proofs.Limits.{states_within_limits}
use Rattle.acting.specs.declared.halt.Halt.{Halt}
use Rattle.acting.specs.declared.refusal.SessionRefusal.TheVariants.{ProviderFull}
use Rattle.acting.specs.Carrying.{line_act}
use Rattle.acting.specs.Loading.{node_act}
use Rattle.acting.specs.Refusals.{halt_refusal}
use Rattle.acting.specs.Standing.{StandsFor, Loaded, NoRoom, OwnNumbers}
use Rattle.acting.proofs.Nodes.{load_stands}
use Rattle.acting.proofs.Parts.{loaded_kept}
use Rattle.protocol.specs.declared.step.Step.{Step}
use Rattle.protocol.specs.States.{trees, step_of, state_by, holds_known, op_known, lines_known, scripts_known}
use Rattle.protocol.proofs.Trees.{length_trees, nth_trees}
use Rattle.runs.specs.declared.fault.Played.{Played}
use Rattle.runs.specs.declared.fault.RunFault.{RunFault}
use Rattle.runs.specs.declared.task.Task.{Task}
use Rattle.runs.specs.Memory.{lines_at, base_of, Enough, enough}
use Rattle.runs.specs.Tasks.{start_task, send_task, receive_task, starts_from, start_tasks, step_tasks}
use Rattle.runs.specs.Runs.{tasks_of, played_of, early_fault, Runs, Refused, RanBy, Ran}
use Rattle.runs.specs.Law.{Sent, full_at, InPart, Short, SentBefore, RanRight, RunLaw}
use Rattle.runs.proofs.Standing.{AllFit, after_all, sames_in}
use Rattle.runs.proofs.Doing.{TaskDone, AllDone, StoppedAt, Stopped, tasks_stand}
use Rattle.runs.proofs.Fitting.{view_step, view_script, all_fit, all_done}
use Rattle.runs.proofs.Counting.{count_all}

-- numbers that are known
holds_known_lem : (n : ℕ) (o : Option ℕ) → holds_known n o ≡ true → Below n o
holds_known_lem n None e = tt
holds_known_lem n (Some t) e = ltb-true t n e

op_known_lem : (n : ℕ) (op : Instruction) → op_known n op ≡ true → OpBelow n op
op_known_lem n (Given t) e = ltb-true t n e
op_known_lem n (Fresh t) e = ltb-true t n e
op_known_lem n (From t) e = ltb-true t n e
op_known_lem n (To t) e = ltb-true t n e
op_known_lem n (Recv t) e = ltb-true t n e
op_known_lem n (Mate i) e = tt
op_known_lem n (Left i) e = tt
op_known_lem n (Right i) e = tt
op_known_lem n (Join i j) e = tt
op_known_lem n (Seal i j) e = tt
op_known_lem n (Digest i j) e = tt
op_known_lem n (Entry i j) e = tt
op_known_lem n (Open i j) e = tt
op_known_lem n (Same i j) e = tt
op_known_lem n (Send i j) e = tt

pub lines_known_lem : (n : ℕ) (ls : List Line) → lines_known n ls ≡ true → AllNamed n ls
lines_known_lem n [] e = tt
lines_known_lem n (l ∷ ls) e =
    let a = and_parts (holds_known n l.holds && op_known n l.op) (lines_known n ls) e in
    let b = and_parts (holds_known n l.holds) (op_known n l.op) a.0 in
    ((holds_known_lem n l.holds b.0, op_known_lem n l.op b.1), lines_known_lem n ls a.1)

pub scripts_known_lem : (n : ℕ) (ps : List (List Line)) → scripts_known n ps ≡ true → (p : ℕ) → AllNamed n (lines_at ps p)
scripts_known_lem n [] e p = tt
scripts_known_lem n (ls ∷ ps) e zero = lines_known_lem n ls (and_parts (lines_known n ls) (scripts_known n ps) e).0
scripts_known_lem n (ls ∷ ps) e (suc p) = scripts_known_lem n ps (and_parts (lines_known n ls) (scripts_known n ps) e).1 p

pub count_by : (ts : List TermNode) (ps : List (List Line)) (ss : List Step) (us : List Task) → 1 ≤ length ps → AllFit ts ps (λ p. 0) us
    → ((p : ℕ) → 1 ≤ p → p < length ps → after_all (λ q. 0) us p ≡ length (lines_at ps p)) → sames_in ts ps us ≡ sames_of (state_by ts ps ss)
count_by ts [] ss us some fit all = absurd (omega arith)
count_by ts (ls ∷ qs) ss us some fit all = count_all ts ls qs ss us fit all

abbrev halted : ℕ → ProviderError → Halt
halted n x = record { at = n; error = x }

full_is : (h : Halt) → h.error ≡ Full → h ≡ full_at h.at
full_is h e = ap (halted h.at) e

full_refusal : (h : Halt) → h.error ≡ Full → halt_refusal h ≡ ProviderFull h.at
full_refusal h e = rw e refl

-- what was done last of tasks
done_after : {S X : Type 0} (f : Algebra X) (m : S → Meaning X) (ts : List TermNode) (ps : List (List Line)) (readings : List ℕ) (s : S) (slots : List ℕ) (us vs : List Task)
    → AllDone f m ts ps readings s slots (us ++ vs) → AllDone f m ts ps readings s slots vs
done_after f m ts ps readings s slots [] vs h = h
done_after f m ts ps readings s slots (t ∷ us) vs h = done_after f m ts ps readings s slots us vs h.1

module _ {S X : Type 0} (f : Algebra X) (m : S → Meaning X) (ts : List TermNode) (ps : List (List Line)) (ss : List Step) (readings : List ℕ) (s : S) (slots : List ℕ) where
  abbrev st : State
  st = state_by ts ps ss

  abbrev Done : Task → Type 0
  Done t = TaskDone f m ts ps readings s slots t

  abbrev Halted : RunFault → Task → Type 0
  Halted e t = StoppedAt f m ts ps readings s slots e t

  step_done : (xs : List Step) (l k : ℕ) (x : Step) → AllDone f m ts ps readings s slots (step_tasks (state_by ts ps ss) l xs) → nth xs k ≡ Some x → Done (send_task (state_by ts ps ss) (l + k) x)
  step_done [] l k x h e = let z : ◌≡◌ {A = ℕ} 0 1 = cc in absurd (omega arith)
  step_done (y ∷ xs) l zero x h e = let p : y ≡ x = cc in subst (λ (q : Step). Done (send_task (state_by ts ps ss) (l + 0) q)) p h.0
  step_done (y ∷ xs) l (suc k) x h e = step_done xs (l + 1) k x h.1.1 e

  stopped_either : (e : RunFault) (us vs : List Task) → Stopped f m ts ps readings s slots e (us ++ vs) → Stopped f m ts ps readings s slots e us ⊎ Stopped f m ts ps readings s slots e vs
  stopped_either e [] vs h = inr h
  stopped_either e (t ∷ us) vs (inl h) = inl (inl h)
  stopped_either e (t ∷ us) vs (inr (d, h)) = go (stopped_either e us vs h)
    where
      go : Stopped f m ts ps readings s slots e us ⊎ Stopped f m ts ps readings s slots e vs → Stopped f m ts ps readings s slots e (t ∷ us) ⊎ Stopped f m ts ps readings s slots e vs
      go (inl w) = inl (inr (d, w))
      go (inr w) = inr w

  -- a start that was stopped
  start_stopped : (e : RunFault) (k p : ℕ) → Stopped f m ts ps readings s slots e (starts_from st p k) → (q : ℕ) × (p ≤ q) × (q < p + k) × Halted e (start_task st q)
  start_stopped e zero p h = absurd h
  start_stopped e (suc k) p (inl h) = (p, omega arith, omega arith, h)
  start_stopped e (suc k) p (inr (d, h)) = let w = start_stopped e k (p + 1) h in (w.0, omega (arith, w.1), omega (arith, w.2), w.3)

  -- a step that was stopped, and those before it
  pub record StepStopped (e : RunFault) (xs : List Step) (l : ℕ) : Type 0 where
    pub number : ℕ
    pub step : Step
    pub there : nth xs number ≡ Some step
    pub where_stopped : Halted e (send_task (state_by ts ps ss) (l + number) step) ⊎ (Done (send_task (state_by ts ps ss) (l + number) step) × Halted e (receive_task (state_by ts ps ss) (l + number) step))
    pub before : (j : ℕ) (y : Step) → j < number → nth xs j ≡ Some y → Done (send_task (state_by ts ps ss) (l + j) y)

  step_stopped : (e : RunFault) (xs : List Step) (l : ℕ) → Stopped f m ts ps readings s slots e (step_tasks (state_by ts ps ss) l xs) → StepStopped e xs l
  step_stopped e [] l h = absurd h
  step_stopped e (x ∷ xs) l (inl h) =
      let z : l ≡ l + 0 = omega arith in
      record { number = 0; step = x; there = refl; where_stopped = inl (subst (λ (k : ℕ). Halted e (send_task (state_by ts ps ss) k x)) z h); before = λ j y b w. absurd (omega arith) }
  step_stopped e (x ∷ xs) l (inr (d, inl h)) =
      let z : l ≡ l + 0 = omega arith in
      record { number = 0; step = x; there = refl; where_stopped = inr (d, subst (λ (k : ℕ). Halted e (receive_task (state_by ts ps ss) k x)) z h); before = λ j y b w. absurd (omega arith) }
  step_stopped e (x ∷ xs) l (inr (d, inr (d', h))) = go (step_stopped e xs (l + 1) h)
    where
      go : StepStopped e xs (l + 1) → StepStopped e (x ∷ xs) l
      go w =
          let z : (l + 1) + w.number ≡ l + suc w.number = omega arith in
          record {
            number = suc w.number;
            step = w.step;
            there = w.there;
            where_stopped = subst (λ (k : ℕ). Halted e (send_task (state_by ts ps ss) k w.step) ⊎ (Done (send_task (state_by ts ps ss) k w.step) × Halted e (receive_task (state_by ts ps ss) k w.step))) z w.where_stopped;
            before = below;
          }
        where
          below : (j : ℕ) (y : Step) → j < suc w.number → nth (x ∷ xs) j ≡ Some y → Done (send_task (state_by ts ps ss) (l + j) y)
          below zero y b q = let p : x ≡ y = cc in subst (λ (v : Step). Done (send_task (state_by ts ps ss) (l + 0) v)) p d
          below (suc j) y b q = w.before j y (omega arith) q

  -- stopped for want of room
  short_of : (e : RunFault) (t : Task) → 1 ≤ t.party → t.party < length ps → ((n : ℕ) → t.start ≤ n → n < t.end → InPart ts ps ss (record { refusal = e.refusal; step = t.step; party = t.party }) n) → Halted e t
      → Short m ts ps ss s readings slots e
  short_of e t from below part h =
      let k = h.halt in
      let full = h.no_room.full in
      let step_is : t.step ≡ e.step = sym (ap (λ (x : RunFault). x.step) h.named) in
      let party-is : t.party ≡ e.party = sym (ap (λ (x : RunFault). x.party) h.named) in
      record {
        place = k.at;
        full = ap (λ (x : RunFault). x.refusal) h.named ∙ full_refusal k full;
        unfitting = inr (
          subst (λ (p : ℕ). 1 ≤ p) party-is from,
          subst (λ (p : ℕ). p < length ps) party-is below,
          subst (λ (p : ℕ). InPart ts ps ss (record { refusal = e.refusal; step = e.step; party = p }) k.at) party-is
              (subst (λ (l : ℕ). InPart ts ps ss (record { refusal = e.refusal; step = l; party = t.party }) k.at) step_is (part k.at h.low h.high)),
          (
            h.part,
            subst (λ (p : ℕ). NoRoom m (line_act readings h.part (base_of ps p)) (lines_at ps p) s slots (full_at k.at)) party-is
                (subst (NoRoom m (line_act readings h.part (base_of ps t.party)) (lines_at ps t.party) s slots) (full_is k full) h.no_room),
          ),
        );
      }

-- what a history says of its protocol
module _ (ts : List TermNode) (ps : List (List Line)) (ss : List Step) (past : History) (came : Came past (state_by ts ps ss)) where
  abbrev reached_state : State
  reached_state = state_by ts ps ss

  own_numbers : Orderly ts → OwnNumbers ts
  own_numbers ok i k n e =
      let l = nth_below ts i (Name k n) e in
      let r : node_at ts i ≡ Name k n = some_is (sym (nth_at ts i (Name Party 0) l) ∙ e) in
      (came_stable past reached_state came).numbers.own i (kind_of k) n (nth_trees ts i l ∙ ap Some (tree_at ts ok.lower i (Name k n) l r))

  script_fits : (p : ℕ) → p < length ps → Fits (trees ts) (script_of (tree ts) (lines_at ps p))
  script_fits p l =
      scripts_fit past reached_state came p (script_of (tree ts) (lines_at ps p))
      (nth_at reached_state.scripts p [] (omega (arith, length-map ps (script_of (tree ts)))) ∙ ap Some (view_script (tree ts) ps p))

  limits : WithinLimits reached_state
  limits = states_within_limits past reached_state came

  pub wrote : Wrote reached_state
  wrote = steps_wrote past reached_state came

  pub some_agent : 1 ≤ length ps
  some_agent = omega (arith, limits.listener, length-map ps (script_of (tree ts)))

  few_steps : length ss ≤ 64
  few_steps = omega (arith, limits.steps, length-map ss (step_of (tree ts)))

  granted_count : length (granted past) ≡ length ss
  granted_count = (steps_are_granted past reached_state came).count ∙ length-map ss (step_of (tree ts))

  -- a granted step is stored
  pub record Stored (l a b n : ℕ) (t : Term) : Type 0 where
    pub step : Step
    pub there : nth ss l ≡ Some step
    pub below : l < 64
    pub from : step.sender ≡ a
    pub to : step.receiver ≡ b
    pub message : tree ts step.message ≡ t
    pub known : n < length ts
    pub tree_is : tree ts n ≡ t

  stored : (l a b n : ℕ) (t : Term) → nth (granted past) l ≡ Some (a, b, n) → Stands past n t → Stored l a b n t
  stored l a b n t e h =
      let x = get_or ss l no_step in
      let low : l < length ss = omega (arith, nth_below (granted past) l (a, b, n) e, granted_count) in
      let here : nth ss l ≡ Some x = nth_at ss l no_step low in
      let w = (steps_are_granted past reached_state came).agree l (step_of (tree ts) x) (view_step (tree ts) ss l x here) in
      let same : ◌≡◌ {A = ℕ × ℕ × ℕ} (x.sender, x.receiver, w.0) (a, b, n) = some_is (sym w.1 ∙ e) in
      let numbers = (came_stable past reached_state came).numbers in
      let n-is : w.0 ≡ n = ap (λ (q : ℕ × ℕ × ℕ). q.2) same in
      let at_n = numbers.stands_to n t h in
      let at-w = numbers.stands_to w.0 (tree ts x.message) w.2 in
      let known : n < length ts = omega (arith, nth_below (trees ts) n t at_n, length_trees ts) in
      record {
        step = x;
        there = here;
        below = omega (arith, few_steps);
        from = ap (λ (q : ℕ × ℕ × ℕ). q.0) same;
        to = ap (λ (q : ℕ × ℕ × ℕ). q.1) same;
        message = some_is (sym (ap (nth (trees ts)) (sym n-is) ∙ at-w) ∙ at_n);
        known = known;
        tree_is = some_is (sym (nth_trees ts n known) ∙ at_n);
      }
    where
      no_step : Step
      no_step = record { sender = 0; receiver = 0; message = 0; sent = 0; received = 0; heard = 0 }

  module _ {S X : Type 0} (f : Algebra X) (m : S → Meaning X) (readings : List ℕ) (s : S) (slots : List ℕ) (loaded : Loaded f (m s).issued (tree ts) (length ts) readings) where
    -- a granted step whose sender's part is done was sent right
    sent_right : (l a b n : ℕ) (t : Term) (w : Stored l a b n t) → TaskDone f m ts ps readings s slots (send_task reached_state l w.step) → Sent f m ps ss s readings slots l a b n t
    sent_right l a b n t w d =
        let x = w.step in
        let v = wrote.steps l (step_of (tree ts) x) (view_step (tree ts) ss l x w.there) in
        let is : at (terms_of (script_of (tree ts) (lines_at ps x.sender))) (x.sent - 1) ≡ t =
        ap (λ z. at (terms_of z) (x.sent - 1)) (sym (view_script (tree ts) ps x.sender)) ∙ (v.sends.sent_is ∙ w.message) in
        let low : x.sent - 1 < x.sent = omega (arith, v.sends.some) in
        let sent : StandsFor f (m s).issued (get_or slots (base_of ps x.sender + (x.sent - 1)) 0) t = subst (StandsFor f (m s).issued (get_or slots (base_of ps x.sender + (x.sent - 1)) 0)) is (d (x.sent - 1) low) in
        record {
          step = x;
          stored = w.there;
          from = w.from;
          to = w.to;
          message = subst (λ (p : ℕ). StandsFor f (m s).issued (get_or slots (base_of ps p + (x.sent - 1)) 0) t) w.from sent;
          reading = subst (StandsFor f (m s).issued (get_or readings n 0)) w.tree_is (loaded n w.known);
        }

    -- a run whose tasks were all done
    unstopped : AllDone f m ts ps readings s slots (tasks_of ts ps ss) → (l a b n : ℕ) (t : Term) → nth (granted past) l ≡ Some (a, b, n) → Stands past n t → Sent f m ps ss s readings slots l a b n t
    unstopped all l a b n t e h =
        let w = stored l a b n t e h in
        sent_right l a b n t w (step_done f m ts ps ss readings s slots ss 0 l w.step (done_after f m ts ps readings s slots (start_tasks reached_state (length ps)) (step_tasks reached_state 0 ss) all) w.there)

    abbrev StoppedRight : RunFault → Type 0
    StoppedRight e =
        Short m ts ps ss s readings slots e
        × ((l a b n : ℕ) (t : Term) → nth (granted past) l ≡ Some (a, b, n) → Stands past n t → SentBefore e l b → Sent f m ps ss s readings slots l a b n t)

    -- stopped before the first step
    stopped_early : (e : RunFault) → e.step ≡ 64 → (l a b n : ℕ) (t : Term) → nth (granted past) l ≡ Some (a, b, n) → Stands past n t → SentBefore e l b → Sent f m ps ss s readings slots l a b n t
    stopped_early e d l a b n t g h (inl w) = absurd (omega (arith, w.1))
    stopped_early e d l a b n t g h (inr w) = absurd (omega (arith, w.0, (stored l a b n t g h).below))

    stopped_start : (e : RunFault) → ((q : ℕ) × (1 ≤ q) × (q < 1 + (length ps - 1)) × StoppedAt f m ts ps readings s slots e (start_task reached_state q)) → StoppedRight e
    stopped_start e (q, u, v, w) = (
      short_of f m ts ps ss readings s slots e (start_task reached_state q) u (omega (arith, some_agent)) (λ n a b. inl (refl, b)) w,
      stopped_early e (ap (λ (x : RunFault). x.step) w.named),
    )

    -- the step of this number is the one stored there
    same_step : (l : ℕ) (x y : Step) → nth ss l ≡ Some x → nth ss l ≡ Some y → x ≡ y
    same_step l x y a b = some_is (sym a ∙ b)

    module _ (e : RunFault) (k : StepStopped f m ts ps ss readings s slots e ss 0) where
      abbrev here : ℕ
      here = 0 + k.number

      abbrev x : Step
      x = k.step

      number_is : here ≡ k.number
      number_is = omega arith

      x_there : nth ss here ≡ Some x
      x_there = ap (nth ss) number_is ∙ k.there

      earlier : e.step ≡ here → (l a b n : ℕ) (t : Term) → nth (granted past) l ≡ Some (a, b, n) → Stands past n t → l < e.step → Sent f m ps ss s readings slots l a b n t
      earlier d l a b n t g h low =
          let w = stored l a b n t g h in
          sent_right l a b n t w (k.before l w.step (omega arith) w.there)

      stopped_sender : StoppedAt f m ts ps readings s slots e (send_task reached_state here x) → StoppedRight e
      stopped_sender w =
          let v = wrote.steps here (step_of (tree ts) x) (view_step (tree ts) ss here x x_there) in
          let d : e.step ≡ here = ap (λ (z : RunFault). z.step) w.named in
          let p : e.party ≡ x.sender = ap (λ (z : RunFault). z.party) w.named in (
            short_of f m ts ps ss readings s slots e (send_task reached_state here x) v.sender_from (omega (arith, v.sender_below, length-map ps (script_of (tree ts)))) (λ n a b. inr (x, x_there, inl (refl, a, b))) w,
            λ l a b n t g h q. go d p v.different l a b n t g h q,
          )
        where
          go : e.step ≡ here → e.party ≡ x.sender → (x.sender ≡ x.receiver → ⊥) → (l a b n : ℕ) (t : Term) → nth (granted past) l ≡ Some (a, b, n) → Stands past n t → SentBefore e l b → Sent f m ps ss s readings slots l a b n t
          go d p apart l a b n t g h (inl q) = earlier d l a b n t g h q.0
          go d p apart l a b n t g h (inr q) =
              let w = stored l a b n t g h in
              let y : w.step ≡ x = same_step here w.step x (ap (nth ss) (sym (q.0 ∙ d)) ∙ w.there) x_there in
              let r : x.receiver ≡ b = sym (ap (λ (z : Step). z.receiver) y) ∙ w.to in
              absurd (apart (sym p ∙ (sym q.1 ∙ sym r)))

      stopped_receiver : TaskDone f m ts ps readings s slots (send_task reached_state here x) → StoppedAt f m ts ps readings s slots e (receive_task reached_state here x) → StoppedRight e
      stopped_receiver done w =
          let v = wrote.steps here (step_of (tree ts) x) (view_step (tree ts) ss here x x_there) in
          let d : e.step ≡ here = ap (λ (z : RunFault). z.step) w.named in (
            short_of f m ts ps ss readings s slots e (receive_task reached_state here x) v.receiver_from (omega (arith, v.receiver_below, length-map ps (script_of (tree ts)))) (λ n a b. inr (x, x_there, inr (refl, a, b))) w,
            λ l a b n t g h q. go d l a b n t g h q,
          )
        where
          go : e.step ≡ here → (l a b n : ℕ) (t : Term) → nth (granted past) l ≡ Some (a, b, n) → Stands past n t → SentBefore e l b → Sent f m ps ss s readings slots l a b n t
          go d l a b n t g h (inl q) = earlier d l a b n t g h q.0
          go d l a b n t g h (inr q) =
              let w = stored l a b n t g h in
              let y : w.step ≡ x = same_step here w.step x (ap (nth ss) (sym (q.0 ∙ d)) ∙ w.there) x_there in
              sent_right l a b n t w (subst (λ (z : Step). TaskDone f m ts ps readings s slots (send_task reached_state l z)) (sym y) done)

      stopped_step : StoppedAt f m ts ps readings s slots e (send_task reached_state here x) ⊎ (TaskDone f m ts ps readings s slots (send_task reached_state here x) × StoppedAt f m ts ps readings s slots e (receive_task reached_state here x)) → StoppedRight e
      stopped_step (inl w) = stopped_sender w
      stopped_step (inr (d, w)) = stopped_receiver d w

    -- a run that was stopped in one of its tasks
    stopped : (e : RunFault) → Stopped f m ts ps readings s slots e (tasks_of ts ps ss) → StoppedRight e
    stopped e h = go (stopped_either f m ts ps ss readings s slots e (start_tasks reached_state (length ps)) (step_tasks reached_state 0 ss) h)
      where
        go : Stopped f m ts ps readings s slots e (start_tasks reached_state (length ps)) ⊎ Stopped f m ts ps readings s slots e (step_tasks reached_state 0 ss) → StoppedRight e
        go (inl w) = stopped_start e (start_stopped f m ts ps ss readings s slots e (length ps - 1) 1 w)
        go (inr w) = let k = step_stopped f m ts ps ss readings s slots e ss 0 w in stopped_step e k k.where_stopped

  -- a run with enough memory was right
  module _ {S X : Type 0} {P : X → Type 0} {f : Algebra X} (law : Lawful P f) (m : S → Meaning X) (holds : (s : S) → Holds P (m s)) (ok : Orderly ts) (few : length ts ≤ 512) (known : scripts_known (length ts) ps ≡ true)
      (s : S) (readings slots : List ℕ) (room : Enough ts ps readings slots) where
    abbrev RightRun : Result Played RunFault → S → List ℕ → List ℕ → Type 0
    RightRun r s' readings' slots' = RanRight f m past ts ps ss r s' readings' slots'

    pub runs_right : (r : Result Played RunFault) (s' : S) (readings' slots' : List ℕ) → Runs f m ts ps ss s readings slots r s' readings' slots' → RightRun r s' readings' slots'
    runs_right r s' readings' slots' (Err h, s₁, ld, w) =
        let d = load_stands law m ts ok few s readings (Err h) s₁ readings' ld (own_numbers ok) room.0 in
        let full = d.1.full in
        rw (w.0, w.1) (
          record {
            place = h.at;
            full = full_refusal h full;
            unfitting = inl (refl, refl, subst (NoRoom m node_act ts s₁ readings') (full_is h full) d.1);
          },
          λ l a b n t g q z. early l a b n t g q z,
        )
      where
        early : (l a b n : ℕ) (t : Term) → nth (granted past) l ≡ Some (a, b, n) → Stands past n t → SentBefore (early_fault (halt_refusal h)) l b → Sent f m ps ss s₁ readings' slots' l a b n t
        early l a b n t g q (inl z) = absurd (omega (arith, z.1))
        early l a b n t g q (inr z) = absurd (omega (arith, z.0, (stored l a b n t g q).below))
    runs_right r s' readings' slots' (Ok c, s₁, ld, (d, w, e)) =
        let v = load_stands law m ts ok few s readings (Ok c) s₁ readings' ld (own_numbers ok) room.0 in
        let fit = all_fit ts ps ss wrote some_agent in
        let k = tasks_stand f m ts ps readings' law holds (terms_settled past reached_state came) (scripts_known_lem (length ts) ps known) script_fits (tasks_of ts ps ss) (λ p. 0) fit s₁ slots room.1 v.1
        (λ p u q. (omega arith, λ j l. absurd (omega arith))) d s' slots' w in
        let loaded = loaded_kept f (tree ts) (m s₁).issued (m s').issued k.kept (length ts) readings' v.1 in
        let sames = count_by ts ps ss (tasks_of ts ps ss) some_agent fit (all_done ts ps ss wrote) in
        go d e loaded sames k.ends
      where
        go : (d : Result ℕ RunFault) → r ≡ played_of (length ss) d → Loaded f (m s').issued (tree ts) (length ts) readings' → sames_in ts ps (tasks_of ts ps ss) ≡ sames_of reached_state
            → MatchResult d (λ c. (c ≡ sames_in ts ps (tasks_of ts ps ss)) × AllDone f m ts ps readings' s' slots' (tasks_of ts ps ss)) (λ x. Stopped f m ts ps readings' s' slots' x (tasks_of ts ps ss)) → RightRun r s' readings' slots'
        go (Ok c) e loaded sames h = rw e (sym granted_count, h.0 ∙ sames, unstopped f m readings' s' slots' loaded h.1)
        go (Err x) e loaded sames h = rw e (stopped f m readings' s' slots' loaded x h)

enough_true : (ts : List TermNode) (ps : List (List Line)) (readings slots : List ℕ) → Enough ts ps readings slots → enough ts ps readings slots ≡ true
enough_true ts ps readings slots w = and_from (leb (length ts) (length readings)) (leb (base_of ps (length ps)) (length slots)) (le-leb (length ts) (length readings) w.0) (le-leb (base_of ps (length ps)) (length slots) w.1)

module _ {S X : Type 0} {P : X → Type 0} {f : Algebra X} (law : Lawful P f) (m : S → Meaning X) (holds : (s : S) → Holds P (m s)) (ts : List TermNode) (ps : List (List Line)) (ss : List Step)
    (s : S) (readings slots : List ℕ) (r : Result Played RunFault) (s' : S) (readings' slots' : List ℕ) (ran : Ran f m ts ps ss s readings slots r s' readings' slots') where
  -- the law on runs, from what a run does
  pub run_law : Orderly ts → length ts ≤ 512 → scripts_known (length ts) ps ≡ true → RunLaw f m ts ps ss readings slots r s' readings' slots'
  run_law ok few known past came room =
      runs_right ts ps ss past came law m holds ok few known s readings slots room r s' readings' slots'
      (subst (λ (b : Bool). RanBy b f m ts ps ss s readings slots r s' readings' slots') (enough_true ts ps readings slots room) ran)

  -- with too little memory nothing is done
  pub run_refused : (Enough ts ps readings slots → ⊥) → Refused s readings slots r s' readings' slots'
  run_refused none = go (enough ts ps readings slots) refl ran
    where
      go : (b : Bool) → enough ts ps readings slots ≡ b → RanBy b f m ts ps ss s readings slots r s' readings' slots' → Refused s readings slots r s' readings' slots'
      go false e w = w
      go true e w =
          let a = and_parts (leb (length ts) (length readings)) (leb (base_of ps (length ps)) (length slots)) e in
          absurd (none (leb-true (length ts) (length readings) a.0, leb-true (base_of ps (length ps)) (length slots) a.1))
