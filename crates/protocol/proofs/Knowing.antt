-- Initial knowledge.
use Rattle.std.proofs.Common.{◌≡◌, Result, MatchResult, subst, Some, ℕ, ◌<◌, ◌≤◌, true, false, List, [], ◌∷◌, map, length, set, Ok, Err, sym, refl, ap, ◌∙◌, arith, le-ltb, lt-ltb}
use Rattle.std.specs.Prelude.{slice_set}
use Rattle.bounded.specs.Items.{items}
use Rattle.std.proofs.lemmas.List.{map-set}
use Rattle.terms.specs.Listed.{listed}
use Rattle.terms.specs.Tree.{tree}
use Rattle.scripts.specs.declared.instruction.ScriptError.{ScriptError}
use Rattle.scripts.specs.declared.instruction.ScriptError.TheVariants.{Full, Missing}
use Rattle.scripts.specs.declared.script.Script.{Script}
use Rattle.scripts.specs.Composing.{view}
use Rattle.scripts.specs.Lines.{script_of}
use Rattle.scripts.specs.View.{written}
use Rattle.scripts.proofs.View.{length_view}
use Rattle.scripts.proofs.Writing.{written_few}
use Rattle.effects.specs.Effects.{Effects}
use Rattle.rules.specs.Effects.{knows}
use Rattle.rules.specs.State.{State, Step, KNOW, known, nth, has_no_steps, learns, too_long, outcome, refuses, perform}
use Rattle.rules.specs.State as rules
use Rattle.protocol.specs.declared.call.Reply.TheVariants.{Done}
use Rattle.protocol.specs.declared.protocol.Protocol.{Protocol}
use Rattle.protocol.specs.declared.refusal.Refusal.TheVariants as refusals
use Rattle.protocol.specs.declared.refusal.Refusal.{Refusal}
use Rattle.protocol.specs.Knowing.{Learned, Learns}
use Rattle.protocol.specs.Outcome.{Performed}
use Rattle.protocol.specs.States.{are_all_known, scripts_known, steps_known, state_by}
use Rattle.protocol.specs.View.{lines_of, steps_of, view_of}
use Rattle.protocol.proofs.Asking.{state_script}
use Rattle.protocol.specs.Reached.{Reached}
use Rattle.rules.proofs.Nth.{nth_below}
use Rattle.protocol.proofs.Known.{and_both, set_known, all_scripts, all_steps}
use Rattle.protocol.proofs.Performing.{performed_by}
use Rattle.protocol.proofs.Reaching.{reached_next}
use Rattle.protocol.proofs.Reading.{steps_are}
use Rattle.protocol.proofs.Trees.{nth_trees, none_trees}

none_yet : (xs : List Step) → length xs ≡ 0 → has_no_steps xs ≡ true
none_yet [] e = refl
none_yet (x ∷ xs) e = absurd (omega arith)

some_already : (xs : List Step) → 0 < length xs → has_no_steps xs ≡ false
some_already [] l = absurd (omega arith)
some_already (x ∷ xs) l = refl

module _ (c : Protocol) (p n : ℕ) where
  module _ (x : Script) (at : nth (lines_of c) p ≡ Some (written x)) where
    here : nth (view_of c).scripts p ≡ Some (view (listed c.terms) x)
    here = state_script c p x at

    pub know_no_term : length (listed c.terms) ≤ n → Performed (view_of c) (KNOW p n) (Err refusals.Unknown) (view_of c)
    know_no_term l =
        let e = here in
        let f = none_trees (listed c.terms) n l in
        record { answer = rw (e, f) refl; after = rw (e, f) refl }

    module _ (ln : n < length (listed c.terms)) where
      pub know_late : 0 < length (steps_of c) → Performed (view_of c) (KNOW p n) (Err refusals.TooLate) (view_of c)
      know_late l =
          let e = here in
          let f = nth_trees (listed c.terms) n ln in
          let g = some_already (view_of c).steps (omega (arith, l, steps_are c)) in
          record { answer = rw (e, f, g) refl; after = rw (e, f, g) refl }

      module _ (early : length (steps_of c) ≤ 0) where
        learning : perform (view_of c) (KNOW p n) ≡ learns (view_of c) p n (knows (view (listed c.terms) x) (tree (listed c.terms) n))
        learning =
            let e = here in
            let f = nth_trees (listed c.terms) n ln in
            let g = none_yet (view_of c).steps (omega (arith, early, steps_are c)) in
            rw (e, f, g) refl

        know_full : (e : ScriptError) → Effects (listed c.terms) (knows (view (listed c.terms) x) (tree (listed c.terms) n)) (Err e)
            → Performed (view_of c) (KNOW p n) (Err (refusals.ScriptFull p)) (view_of c)
        know_full Full y =
            let l = lt-ltb 512 (length (knows (view (listed c.terms) x) (tree (listed c.terms) n))) y in
            let w : perform (view_of c) (KNOW p n) ≡ refuses (view_of c) (KNOW p n) (rules.ScriptFull p) = learning ∙ rw l refl in
            record { answer = rw w refl; after = rw w refl }
        know_full (Missing m) y = absurd y

        know_granted : (y : Script) → Effects (listed c.terms) (knows (view (listed c.terms) x) (tree (listed c.terms) n)) (Ok y) → Learned c p n y
        know_granted y w =
            let l = le-ltb 512 (length (view (listed c.terms) y)) (omega (arith, length_view (tree (listed c.terms)) (written y), written_few y)) in
            record {
              agent = nth_below (lines_of c) p (written x) at;
              performs = learning ∙ ap (learns (view_of c) p n) (sym w.0) ∙ rw l refl;
              all_known = w.1;
            }

        -- what the effect answers, as the protocol's
        pub know_learned : (r : Result Script ScriptError) (o : Result Script Refusal) → Effects (listed c.terms) (knows (view (listed c.terms) x) (tree (listed c.terms) n)) r
            → MatchResult r (λ y. o ≡ Ok y) (λ e. o ≡ Err (refusals.ScriptFull p)) → Learns c p n o
        know_learned (Ok y) o w is = subst (Learns c p n) (sym is) (know_granted y w)
        know_learned (Err e) o w is = subst (Learns c p n) (sym is) (know_full e w)

-- another script in an agent's place
module _ (c : Protocol) (p n : ℕ) (y : Script) (w : Learned c p n y) (ss : List Script) (is : ss ≡ slice_set (items c.scripts) p y) where
  lines_with : map written ss ≡ set (lines_of c) p (written y)
  lines_with = ap (map written) is ∙ map-set written (items c.scripts) p y

  state_with : state_by (listed c.terms) (map written ss) (steps_of c)
      ≡ record { terms = (view_of c).terms; scripts = set (view_of c).scripts p (view (listed c.terms) y); steps = (view_of c).steps }
  state_with =
      ap (λ xs. record { terms = (view_of c).terms; scripts = xs; steps = (view_of c).steps })
      (ap (map (script_of (tree (listed c.terms)))) lines_with ∙ map-set (script_of (tree (listed c.terms))) (lines_of c) p (written y))

  pub know_performed : Performed (view_of c) (KNOW p n) (Ok Done) (state_by (listed c.terms) (map written ss) (steps_of c))
  know_performed = performed_by (view_of c) (KNOW p n) (known p n) _ (state_by (listed c.terms) (map written ss) (steps_of c)) (Ok Done) w.performs refl state_with

  pub know_known : are_all_known (listed c.terms) (map written ss) (steps_of c) ≡ true
  know_known =
      and_both (scripts_known (length (listed c.terms)) (map written ss)) (steps_known (length (listed c.terms)) (steps_of c))
      (ap (scripts_known (length (listed c.terms))) lines_with ∙ set_known (length (listed c.terms)) (lines_of c) p (written y) (all_scripts c) w.all_known) (all_steps c)

  pub know_came : Reached (state_by (listed c.terms) (map written ss) (steps_of c))
  know_came = reached_next (view_of c) (state_by (listed c.terms) (map written ss) (steps_of c)) (KNOW p n) c.came know_performed.after
