-- Putting a step's scripts in place.
use Rattle.std.proofs.Common.{◌≡◌, true, Ok, Err, Result, ℕ, ◌<◌, List, [], ◌∷◌, ◌++◌, map, length, set, sym, refl, ap, ◌∙◌, ap₂, arith}
use Rattle.std.specs.Prelude.{OnOk, OnErr, slice_set}
use Rattle.bounded.specs.declared.list.BoundedVec.{BoundedVec}
use Rattle.bounded.specs.declared.list.Full.{Full as NoPlace}
use Rattle.bounded.specs.Items.{items}
use Rattle.std.proofs.lemmas.List.{map-set}
use Rattle.terms.specs.Listed.{listed}
use Rattle.terms.specs.Tree.{tree}
use Rattle.scripts.specs.declared.instruction.Line.{Line}
use Rattle.scripts.specs.Composing.{view}
use Rattle.scripts.specs.Lines.{script_of}
use Rattle.scripts.specs.View.{written}
use Rattle.scripts.proofs.View.{length_view}
use Rattle.scripts.specs.declared.script.Script.{Script}
use Rattle.rules.specs.State.{State, Step as RuleStep, STEP, stepped}
use Rattle.protocol.specs.declared.call.Reply.TheVariants.{Number}
use Rattle.protocol.specs.declared.protocol.Protocol.{Protocol}
use Rattle.protocol.specs.declared.protocol.delivering.Delivered.{Delivered}
use Rattle.protocol.specs.declared.step.Delivery.{Delivery}
use Rattle.protocol.specs.declared.step.Step.{Step}
use Rattle.protocol.specs.Delivering.{after_step, Grants, step_with}
use Rattle.protocol.specs.Outcome.{Performed}
use Rattle.protocol.specs.Stepping.{Addressed}
use Rattle.protocol.specs.States.{are_all_known, step_of, state_by, scripts_known, steps_known}
use Rattle.protocol.specs.View.{lines_of, steps_of, view_of}
use Rattle.protocol.proofs.Known.{and_both, set_known, step_known, all_scripts, all_steps}
use Rattle.protocol.proofs.Performing.{performed_by}
use Rattle.protocol.proofs.Reaching.{reached_next}
use Rattle.protocol.specs.Reached.{Reached}
use Rattle.protocol.proofs.Reading.{steps_are}

map_more : {A B : Type 0} (f : A → B) (xs : List A) (x : A) → map f (xs ++ (x ∷ [])) ≡ map f xs ++ (f x ∷ [])
map_more f [] x = refl
map_more f (y ∷ xs) x = ap (λ r. f y ∷ r) (map_more f xs x)

-- three scripts put in their places, one after the other
pub three_placed : (xs x1 x2 x3 : List Script) (a b : ℕ) (s r h : Script) → x1 ≡ slice_set xs a s → x2 ≡ slice_set x1 b r → x3 ≡ slice_set x2 0 h
    → x3 ≡ slice_set (slice_set (slice_set xs a s) b r) 0 h
three_placed xs x1 x2 x3 a b s r h e1 e2 e3 = e3 ∙ ap (λ v. slice_set v 0 h) (e2 ∙ ap (λ v. slice_set v b r) e1)

-- the record of a step put behind the others, for which there is a place
placed : (xs xs' : List Step) (r : Result ℕ NoPlace) (x : Step) → OnOk r (xs' ≡ xs ++ (x ∷ [])) → OnErr r (length xs ≡ 64) → length xs < 64 → xs' ≡ xs ++ (x ∷ [])
placed xs xs' (Ok n) x ok full few = ok
placed xs xs' (Err e) x ok full few = absurd (omega (arith, full))

pub recorded_last : (c : Protocol) → length (steps_of c) < 64 → (r : Result ℕ NoPlace) (v : BoundedVec Step 64) (x y : Step)
    → OnOk r (items v ≡ items c.steps ++ (y ∷ [])) → OnErr r (length (items c.steps) ≡ 64) → y ≡ x → items v ≡ steps_of c ++ (x ∷ [])
recorded_last c room r v x y ok full is = placed (items c.steps) (items v) r y ok full room ∙ ap (λ z. steps_of c ++ (z ∷ [])) is

module _ (c : Protocol) (a b n : ℕ) (w : Delivery) (ad : Addressed c a b n w) (d : Delivered) (gs : Grants c a b n d)
    (ss : List Script) (are : ss ≡ slice_set (slice_set (slice_set (items c.scripts) a d.sent) b d.received) 0 d.heard)
    (xs : List Step) (more : xs ≡ steps_of c ++ (step_with a b n d ∷ [])) where
  abbrev lines' : List (List Line)
  lines' = set (set (set (lines_of c) a (written d.sent)) b (written d.received)) 0 (written d.heard)

  abbrev st' : State
  st' = state_by (listed c.terms) (map written ss) xs

  lines_are : map written ss ≡ lines'
  lines_are =
      ap (map written) are
      ∙ map-set written (set (set (items c.scripts) a d.sent) b d.received) 0 d.heard
      ∙ ap (λ v. set v 0 (written d.heard))
      (map-set written (set (items c.scripts) a d.sent) b d.received ∙ ap (λ v. set v b (written d.received)) (map-set written (items c.scripts) a d.sent))

  scripts_are : map (script_of (tree (listed c.terms))) lines'
      ≡ set (set (set (view_of c).scripts a (view (listed c.terms) d.sent)) b (view (listed c.terms) d.received)) 0 (view (listed c.terms) d.heard)
  scripts_are =
      let f = script_of (tree (listed c.terms)) in
      map-set f (set (set (lines_of c) a (written d.sent)) b (written d.received)) 0 (written d.heard)
      ∙ ap (λ v. set v 0 (f (written d.heard)))
      (map-set f (set (lines_of c) a (written d.sent)) b (written d.received) ∙ ap (λ v. set v b (f (written d.received))) (map-set f (lines_of c) a (written d.sent)))

  same_rule : (m : _) (x x' y y' z z' : ℕ) → x ≡ x' → y ≡ y' → z ≡ z'
      → ◌≡◌ {A = RuleStep} (record { sender = a; receiver = b; message = m; sent = x; received = y; heard = z })
      (record { sender = a; receiver = b; message = m; sent = x'; received = y'; heard = z' })
  same_rule m x x' y y' z z' e1 e2 e3 = rw (e1, e2, e3) refl

  after_is : st' ≡ after_step c a b n (view (listed c.terms) d.sent) (view (listed c.terms) d.received) (view (listed c.terms) d.heard)
  after_is =
      let T = tree (listed c.terms) in
      ap₂ (state_by (listed c.terms)) lines_are more
      ∙ ap₂ (λ ps ys. record { terms = (view_of c).terms; scripts = ps; steps = ys }) scripts_are
      (map_more (step_of T) (steps_of c) (step_with a b n d)
      ∙ ap (λ x. (view_of c).steps ++ (x ∷ []))
      (same_rule (T n) _ _ _ _ _ _ (sym (length_view T (written d.sent))) (sym (length_view T (written d.received))) (sym (length_view T (written d.heard)))))

  pub step_performed : (r : ℕ) → r ≡ length (steps_of c) → Performed (view_of c) (STEP a b n) (Ok (Number r)) st'
  step_performed r next =
      performed_by (view_of c) (STEP a b n) (stepped a b n (length (view_of c).steps)) _ st' (Ok (Number r)) gs.performs (ap (λ m. Ok (Number m)) (next ∙ sym (steps_are c))) after_is

  pub step_all_known : are_all_known (listed c.terms) (map written ss) xs ≡ true
  step_all_known =
      let n' = length (listed c.terms) in
      and_both (scripts_known n' (map written ss)) (steps_known n' xs)
      (ap (scripts_known n') lines_are
      ∙ set_known n' (set (set (lines_of c) a (written d.sent)) b (written d.received)) 0 (written d.heard)
      (set_known n' (set (lines_of c) a (written d.sent)) b (written d.received) (set_known n' (lines_of c) a (written d.sent) (all_scripts c) gs.sent_known) gs.received_known)
      gs.heard_known)
      (ap (steps_known n') more ∙ step_known n' (steps_of c) (step_with a b n d) (all_steps c) ad.message_below)

  pub step_came : Reached st'
  step_came = reached_next (view_of c) st' (STEP a b n) c.came (step_performed (length (steps_of c)) refl).after
