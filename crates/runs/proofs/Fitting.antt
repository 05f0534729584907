-- The tasks of a protocol that came about by calls fit.
use Rattle.std.proofs.Common.{◌≡◌, ℕ, zero, suc, ◌+◌, ◌-◌, ◌<◌, ◌≤◌, ◌⊎◌, List, [], ◌∷◌, ◌++◌, map, length, get_or, take, Some, sym, refl, ap, ◌∙◌, subst, inl, inr, add-one, arith}
use Rattle.std.proofs.lemmas.List.{length-map}
use Rattle.std.proofs.lemmas.Bool.{cases_eq, cases_lt}
use Rattle.deduction.specs.Term.{Term}
use Rattle.terms.specs.declared.node.TermNode.{TermNode}
use Rattle.terms.specs.Tree.{tree}
use Rattle.scripts.specs.declared.instruction.Instruction.{Instruction}
use Rattle.scripts.specs.declared.instruction.Instruction.TheVariants.{Given, Fresh, From, To, Recv, Mate, Left, Right, Join, Seal, Digest, Entry, Open, Same, Send}
use Rattle.scripts.specs.declared.instruction.Line.{Line}
use Rattle.scripts.specs.Lines.{op_of, line_of, script_of}
use Rattle.rules.specs.Script.{Line as RuleLine, Op, GIVEN, FRESH, FROM, TO, RECV, MATE, LEFT, RIGHT, JOIN, SEAL, DIGEST, ENTRY, OPEN, SAME, SEND}
use Rattle.rules.specs.State.{State, nth}
use Rattle.rules.proofs.Nth.{some_is}
use Rattle.valuation.specs.Fit.{at, terms_of}
use Rattle.parts.specs.Kinds.{Starts, Prepares, Takes}
use Rattle.parts.specs.Law.{Wrote}
use Rattle.parts.specs.Parts.{script_of as scriptIn, initial, reached, begin, Each, StepWrote}
use Rattle.parts.proofs.Reached.{part_end, reached_push, by_cases}
use Rattle.acting.specs.Standing.{Alone}
use Rattle.protocol.specs.declared.step.Step.{Step}
use Rattle.protocol.specs.States.{step_of, state_by}
use Rattle.runs.specs.declared.task.Task.{Task}
use Rattle.runs.specs.Memory.{lines_at}
use Rattle.runs.specs.Tasks.{start_task, send_task, receive_task, starts_from, start_tasks, step_tasks}
use Rattle.runs.specs.Runs.{tasks_of}
use Rattle.runs.proofs.Standing.{after, after_all, after_own, after_other, AllAlone, TaskFits, AllFit}

-- the instruction needs nothing handed to it, as the rules have it
abbrev AloneOp : Op → Type 0
AloneOp (GIVEN t) = Unit {0}
AloneOp (FRESH t) = Unit {0}
AloneOp (FROM t) = ⊥
AloneOp (TO t) = ⊥
AloneOp (RECV t) = ⊥
AloneOp (MATE i) = Unit {0}
AloneOp (LEFT i) = Unit {0}
AloneOp (RIGHT i) = Unit {0}
AloneOp (JOIN i j) = Unit {0}
AloneOp (SEAL i j) = Unit {0}
AloneOp (DIGEST i j) = Unit {0}
AloneOp (ENTRY i j) = Unit {0}
AloneOp (OPEN i j) = Unit {0}
AloneOp (SAME i j) = Unit {0}
AloneOp (SEND i j) = Unit {0}

alone_of : (T : ℕ → Term) (op : Instruction) → AloneOp (op_of T op) → Alone op
alone_of T (Given t) h = tt
alone_of T (Fresh t) h = tt
alone_of T (From t) h = h
alone_of T (To t) h = h
alone_of T (Recv t) h = h
alone_of T (Mate i) h = tt
alone_of T (Left i) h = tt
alone_of T (Right i) h = tt
alone_of T (Join i j) h = tt
alone_of T (Seal i j) h = tt
alone_of T (Digest i j) h = tt
alone_of T (Entry i j) h = tt
alone_of T (Open i j) h = tt
alone_of T (Same i j) h = tt
alone_of T (Send i j) h = tt

starts_alone : (o : Op) → Starts o → AloneOp o
starts_alone (GIVEN t) h = tt
starts_alone (FRESH t) h = tt
starts_alone (FROM t) h = h
starts_alone (TO t) h = h
starts_alone (RECV t) h = h
starts_alone (MATE i) h = tt
starts_alone (LEFT i) h = tt
starts_alone (RIGHT i) h = tt
starts_alone (JOIN i j) h = tt
starts_alone (SEAL i j) h = tt
starts_alone (DIGEST i j) h = tt
starts_alone (ENTRY i j) h = tt
starts_alone (OPEN i j) h = tt
starts_alone (SAME i j) h = tt
starts_alone (SEND i j) h = tt

prepares_alone : (o : Op) → Prepares o → AloneOp o
prepares_alone (GIVEN t) h = tt
prepares_alone (FRESH t) h = tt
prepares_alone (FROM t) h = h
prepares_alone (TO t) h = h
prepares_alone (RECV t) h = h
prepares_alone (MATE i) h = tt
prepares_alone (LEFT i) h = tt
prepares_alone (RIGHT i) h = tt
prepares_alone (JOIN i j) h = tt
prepares_alone (SEAL i j) h = tt
prepares_alone (DIGEST i j) h = tt
prepares_alone (ENTRY i j) h = tt
prepares_alone (OPEN i j) h = tt
prepares_alone (SAME i j) h = tt
prepares_alone (SEND i j) h = tt

-- lines and steps as the rules have them
pub view_length : (T : ℕ → Term) (ls : List Line) → length (script_of T ls) ≡ length ls
view_length T [] = refl
view_length T (l ∷ ls) = ap suc (view_length T ls)

view_nth : (T : ℕ → Term) (ls : List Line) (k : ℕ) (l : Line) → nth ls k ≡ Some l → nth (script_of T ls) k ≡ Some (line_of T l)
view_nth T [] k l e = let z : ◌≡◌ {A = ℕ} 0 1 = cc in absurd (omega arith)
view_nth T (x ∷ ls) zero l e = let p : x ≡ l = cc in ap (λ y. Some (line_of T y)) p
view_nth T (x ∷ ls) (suc k) l e = view_nth T ls k l e

pub view_script : (T : ℕ → Term) (ps : List (List Line)) (p : ℕ) → get_or (map (script_of T) ps) p [] ≡ script_of T (lines_at ps p)
view_script T [] p = refl
view_script T (ls ∷ ps) zero = refl
view_script T (ls ∷ ps) (suc p) = view_script T ps p

pub view_step : (T : ℕ → Term) (ss : List Step) (l : ℕ) (x : Step) → nth ss l ≡ Some x → nth (map (step_of T) ss) l ≡ Some (step_of T x)
view_step T [] l x e = let z : ◌≡◌ {A = ℕ} 0 1 = cc in absurd (omega arith)
view_step T (y ∷ ss) zero x e = let p : y ≡ x = cc in ap (λ z. Some (step_of T z)) p
view_step T (y ∷ ss) (suc l) x e = view_step T ss l x e

take_next_suc : {A : Type 0} (xs : List A) (n : ℕ) (x : A) → nth xs n ≡ Some x → take (suc n) xs ≡ take n xs ++ (x ∷ [])
take_next_suc [] n x e = let z : ◌≡◌ {A = ℕ} 0 1 = cc in absurd (omega arith)
take_next_suc (y ∷ ys) zero x e = let p : y ≡ x = cc in ap (λ z. z ∷ []) p
take_next_suc (y ∷ ys) (suc n) x e = ap (λ zs. y ∷ zs) (take_next_suc ys n x e)

take_next : {A : Type 0} (xs : List A) (n : ℕ) (x : A) → nth xs n ≡ Some x → take (n + 1) xs ≡ take n xs ++ (x ∷ [])
take_next xs n x e = rw add-one (take_next_suc xs n x e)

pub fit_append : (ts : List TermNode) (ps : List (List Line)) (us vs : List Task) (E : ℕ → ℕ) → AllFit ts ps E us → AllFit ts ps (after_all E us) vs → AllFit ts ps E (us ++ vs)
fit_append ts ps [] vs E a b = b
fit_append ts ps (t ∷ us) vs E a b = (a.0, fit_append ts ps us vs (after E t) a.1 b)

pub after_append : (us vs : List Task) (E : ℕ → ℕ) (p : ℕ) → after_all E (us ++ vs) p ≡ after_all (after_all E us) vs p
after_append [] vs E p = refl
after_append (t ∷ us) vs E p = after_append us vs (after E t) p

module _ (ts : List TermNode) (ps : List (List Line)) (ss : List Step) (wrote : Wrote (state_by ts ps ss)) where
  abbrev T : ℕ → Term
  T = tree ts

  abbrev st : State
  st = state_by ts ps ss

  agents : length st.scripts ≡ length ps
  agents = length-map ps (script_of T)

  -- a party's script, line by line
  each_line : (O : Op → Type 0) (p from end : ℕ) → Each O (scriptIn st p) from end → (k : ℕ) (l : Line) → from ≤ k → k < end → nth (lines_at ps p) k ≡ Some l → O (op_of T l.op)
  each_line O p from end h k l u v e = h k (line_of T l) u v (ap (λ s. nth s k) (view_script T ps p) ∙ view_nth T (lines_at ps p) k l e)

  script_long : (p : ℕ) → length (scriptIn st p) ≡ length (lines_at ps p)
  script_long p = ap length (view_script T ps p) ∙ view_length T (lines_at ps p)

  start_fits : (p : ℕ) (E : ℕ → ℕ) → 1 ≤ p → p < length ps → E p ≡ 0 → TaskFits ts ps E (start_task st p)
  start_fits p E u v e =
      let w = wrote.parties p u (omega (arith, agents)) in
      record {
        from = u;
        below = v;
        ready = e;
        order = omega arith;
        inside = omega (arith, w.within, script_long p);
        role_fits = λ k l a b d. alone_of T l.op (starts_alone (op_of T l.op) (each_line Starts p 0 (initial st p) w.starts k l a b d));
      }

  module _ (l : ℕ) (x : Step) (E : ℕ → ℕ) (w : StepWrote st (take l st.steps) (step_of T x)) (agree : (p : ℕ) → 1 ≤ p → p < length ps → E p ≡ reached (take l st.steps) (initial st p) p) where
    sends_alone : AllAlone ts ps (lines_at ps x.sender) (begin st l x.sender) x.sent
    sends_alone k y a b d = go (cases_lt k (x.sent - 1))
      where
        go : (k < x.sent - 1) ⊎ (x.sent - 1 ≤ k) → Alone y.op
        go (inl q) = alone_of T y.op (prepares_alone (op_of T y.op) (each_line Prepares x.sender (begin st l x.sender) (x.sent - 1) w.sends.prepares k y a q d))
        go (inr q) =
            let k-is : x.sent - 1 ≡ k = omega arith in
            let v = view_nth T (lines_at ps x.sender) k y d in
            let u = sym (ap (λ s. nth s k) (view_script T ps x.sender)) ∙ (ap (nth (scriptIn st x.sender)) (sym k-is) ∙ w.sends.last) in
            let e = some_is (sym v ∙ u) in
            alone_of T y.op (subst AloneOp (sym (ap (λ (z : RuleLine). z.op) e)) tt)

    send_fits : TaskFits ts ps E (send_task st l x)
    send_fits = record {
      from = w.sender_from;
      below = omega (arith, w.sender_below, agents);
      ready = agree x.sender w.sender_from (omega (arith, w.sender_below, agents));
      order = omega (arith, w.sends.some);
      inside = omega (arith, w.sends.within, script_long x.sender);
      role_fits = sends_alone;
    }

    abbrev E₁ : ℕ → ℕ
    E₁ = after E (send_task st l x)

    receive_fits : TaskFits ts ps E₁ (receive_task st l x)
    receive_fits = record {
      from = w.receiver_from;
      below = omega (arith, w.receiver_below, agents);
      ready = after_other E (send_task st l x) x.receiver w.different ∙ agree x.receiver w.receiver_from (omega (arith, w.receiver_below, agents));
      order = omega (arith, w.receives.some);
      inside = omega (arith, w.receives.within, script_long x.receiver);
      role_fits = record {
        who = w.sender_name;
        message = T x.message;
        named = w.sender_is;
        sender_from = w.sender_from;
        sender_below = omega (arith, w.sender_below, agents);
        done = (let q = after_own E (send_task st l x) x.sender refl in omega arith);
        some = omega (arith, w.sends.some);
        is = ap (λ s. at (terms_of s) (x.sent - 1)) (sym (view_script T ps x.sender)) ∙ w.sends.sent_is;
        takes = λ k y a b d. each_line (Takes w.sender_name (T x.message)) x.receiver (begin st l x.receiver) x.received w.receives.takes k y a b d;
      };
    }

  -- after both parts of a step
  both_after : (l : ℕ) (x : Step) (E : ℕ → ℕ) (p : ℕ) → (x.sender ≡ x.receiver → ⊥) → after (after E (send_task st l x)) (receive_task st l x) p ≡ part_end (step_of T x) (E p) p
  both_after l x E p d =
      by_cases x.sender x.receiver x.sent x.received (E p) (λ n. after (after E (send_task st l x)) (receive_task st l x) p ≡ n) p
      (λ e. after_other (after E (send_task st l x)) (receive_task st l x) p (λ q. d (e ∙ sym q)) ∙ after_own E (send_task st l x) p e)
      (λ n e. after_own (after E (send_task st l x)) (receive_task st l x) p e)
      (λ n q. after_other (after E (send_task st l x)) (receive_task st l x) p q ∙ after_other E (send_task st l x) p n)

  -- the steps from l on
  steps_fit : (xs : List Step) (l : ℕ) (E : ℕ → ℕ) → ((k : ℕ) (x : Step) → nth xs k ≡ Some x → nth ss (l + k) ≡ Some x)
      → ((p : ℕ) → 1 ≤ p → p < length ps → E p ≡ reached (take l st.steps) (initial st p) p) → AllFit ts ps E (step_tasks st l xs)
  steps_fit [] l E there agree = tt
  steps_fit (x ∷ xs) l E there agree =
      let z : l + 0 ≡ l = omega arith in
      let here : nth st.steps l ≡ Some (step_of T x) = view_step T ss l x (rw z at (there 0 x refl)) in
      let w = wrote.steps l (step_of T x) here in
      let E₂ = after (after E (send_task st l x)) (receive_task st l x) in
      let next : (p : ℕ) → 1 ≤ p → p < length ps → E₂ p ≡ reached (take (l + 1) st.steps) (initial st p) p =
      (λ p u v. both_after l x E p w.different ∙ (ap (λ n. part_end (step_of T x) n p) (agree p u v)
      ∙ (sym (reached_push (take l st.steps) (step_of T x) (initial st p) p) ∙ ap (λ us. reached us (initial st p) p) (sym (take_next st.steps l (step_of T x) here))))) in
      (send_fits l x E w agree, (receive_fits l x E w agree, steps_fit xs (l + 1) E₂ (λ k y e. let q : l + suc k ≡ (l + 1) + k = omega arith in rw q at (there (suc k) y e)) next))

  -- and how far scripts are done after them
  steps_after : (xs : List Step) (l : ℕ) (E : ℕ → ℕ) → ((k : ℕ) (x : Step) → nth xs k ≡ Some x → x.sender ≡ x.receiver → ⊥) → (p : ℕ) → after_all E (step_tasks st l xs) p ≡ reached (map (step_of T) xs) (E p) p
  steps_after [] l E d p = refl
  steps_after (x ∷ xs) l E d p =
      steps_after xs (l + 1) (after (after E (send_task st l x)) (receive_task st l x)) (λ k y e. d (suc k) y e) p ∙ ap (λ n. reached (map (step_of T) xs) n p) (both_after l x E p (d 0 x refl))

  -- the starts of k parties from p on
  starts_fit : (k p : ℕ) (E : ℕ → ℕ) → 1 ≤ p → p + k ≤ length ps → ((q : ℕ) → p ≤ q → E q ≡ 0) → AllFit ts ps E (starts_from st p k)
  starts_fit zero p E u v none = tt
  starts_fit (suc k) p E u v none = (
    start_fits p E u (omega arith) (none p (omega arith)),
    starts_fit k (p + 1) (after E (start_task st p)) (omega arith) (omega arith)
        (λ q h. let d : p ≡ q → ⊥ = (λ e. omega arith) in after_other E (start_task st p) q d ∙ none q (omega arith)),
  )

  starts_before : (k p : ℕ) (E : ℕ → ℕ) (q : ℕ) → q < p → after_all E (starts_from st p k) q ≡ E q
  starts_before zero p E q l = refl
  starts_before (suc k) p E q l =
      let d : p ≡ q → ⊥ = (λ e. omega arith) in
      starts_before k (p + 1) (after E (start_task st p)) q (omega arith) ∙ after_other E (start_task st p) q d

  starts_after : (k p : ℕ) (E : ℕ → ℕ) (q : ℕ) → p ≤ q → q < p + k → after_all E (starts_from st p k) q ≡ initial st q
  starts_after zero p E q u v = absurd (omega arith)
  starts_after (suc k) p E q u v = go (starts_after k (p + 1) (after E (start_task st p)) q) (cases_eq p q)
    where
      go : (p + 1 ≤ q → q < (p + 1) + k → after_all (after E (start_task st p)) (starts_from st (p + 1) k) q ≡ initial st q) → (p ≡ q) ⊎ (p ≡ q → ⊥) → after_all (after E (start_task st p)) (starts_from st (p + 1) k) q ≡ initial st q
      go rec (inl e) = starts_before k (p + 1) (after E (start_task st p)) q (omega arith) ∙ (after_own E (start_task st p) q e ∙ ap (initial st) e)
      go rec (inr d) = let n : p < q = omega (arith, d) in rec (omega arith) (omega arith)

  abbrev pub nowhere : ℕ → ℕ
  nowhere p = 0

  started : (p : ℕ) → 1 ≤ p → p < length ps → after_all nowhere (start_tasks st (length ps)) p ≡ initial st p
  started p u v = starts_after (length ps - 1) 1 nowhere p u (omega arith)

  -- all tasks of the run fit
  pub all_fit : 1 ≤ length ps → AllFit ts ps nowhere (tasks_of ts ps ss)
  all_fit some =
      fit_append ts ps (start_tasks st (length ps)) (step_tasks st 0 ss) nowhere (starts_fit (length ps - 1) 1 nowhere (omega arith) (omega arith) (λ q h. refl))
      (steps_fit ss 0 (after_all nowhere (start_tasks st (length ps))) (λ k x e. let z : 0 + k ≡ k = omega arith in rw z e) started)

  -- and in the end every party's script is done
  pub all_done : (p : ℕ) → 1 ≤ p → p < length ps → after_all nowhere (tasks_of ts ps ss) p ≡ length (lines_at ps p)
  all_done p u v =
      after_append (start_tasks st (length ps)) (step_tasks st 0 ss) nowhere p
      ∙ (steps_after ss 0 (after_all nowhere (start_tasks st (length ps))) (λ k x e. (wrote.steps k (step_of T x) (view_step T ss k x e)).different) p
      ∙ (ap (λ n. reached st.steps n p) (started p u v) ∙ ((wrote.parties p u (omega (arith, agents))).all ∙ script_long p)))
