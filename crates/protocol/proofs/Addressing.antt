-- The tests of a step before its message is looked at.
use Rattle.std.proofs.Common.{◌≡◌, ℕ, ◌<◌, ◌≤◌, [], length, get_or, Some, None, Option, Err, sym, refl, ap, ◌∙◌, arith, le-ltb, lt-ltb, eq-eqb, ne_eqb}
use Rattle.deduction.specs.Term.{Term}
use Rattle.terms.specs.Listed.{listed}
use Rattle.terms.specs.Tree.{tree}
use Rattle.terms.proofs.Listed.{orderly}
use Rattle.scripts.specs.declared.script.Script.{Script}
use Rattle.scripts.specs.Composing.{view}
use Rattle.scripts.specs.Lines.{slot_of}
use Rattle.scripts.specs.View.{written}
use Rattle.scripts.proofs.View.{named_known, slot_find}
use Rattle.rules.specs.Script.{Script as RuleScript, find}
use Rattle.rules.specs.State.{State, Outcome, STEP, nth, name_of, step_tests, addresses, delivers, refuses, perform}
use Rattle.rules.specs.State as rules
use Rattle.rules.proofs.Nth.{nth_at}
use Rattle.protocol.specs.declared.protocol.Protocol.{Protocol}
use Rattle.protocol.specs.declared.refusal.Refusal.TheVariants as refusals
use Rattle.protocol.specs.declared.step.Delivery.{Delivery}
use Rattle.protocol.specs.Outcome.{Performed}
use Rattle.protocol.specs.Stepping.{Addressed}
use Rattle.protocol.specs.View.{lines_of, steps_of, view_of}
use Rattle.protocol.proofs.Asking.{state_script, state_no_script, agent_known}
use Rattle.protocol.proofs.Reading.{agents_are, nth_is, steps_are}
use Rattle.protocol.proofs.Trees.{nth_trees, none_trees}

module _ (c : Protocol) where
  -- the script of an agent that is there
  pub state_at : (p : ℕ) → p < length (lines_of c) → nth (view_of c).scripts p ≡ Some (get_or (view_of c).scripts p [])
  state_at p l = nth_at (view_of c).scripts p [] (omega (arith, l, agents_are c))

  pub view_at : (p : ℕ) (x : Script) → nth (lines_of c) p ≡ Some (written x) → view (listed c.terms) x ≡ get_or (view_of c).scripts p []
  view_at p x e = sym (nth_is (view_of c).scripts p (view (listed c.terms) x) [] (state_script c p x e))

  module _ (a b n : ℕ) where
    pub no_receiver : length (lines_of c) ≤ b → Performed (view_of c) (STEP a b n) (Err refusals.Unknown) (view_of c)
    no_receiver l = go (nth (view_of c).scripts a) refl
      where
        go : (o : Option RuleScript) → nth (view_of c).scripts a ≡ o → Performed (view_of c) (STEP a b n) (Err refusals.Unknown) (view_of c)
        go None e = record { answer = rw e refl; after = rw e refl }
        go (Some x) e = let f = state_no_script c b l in record { answer = rw (e, f) refl; after = rw (e, f) refl }

    module _ (la : a < length (lines_of c)) (lb : b < length (lines_of c)) where
      pub no_message : length (listed c.terms) ≤ n → Performed (view_of c) (STEP a b n) (Err refusals.Unknown) (view_of c)
      no_message l =
          let e = state_at a la in
          let f = state_at b lb in
          let g = none_trees (listed c.terms) n l in
          record { answer = rw (e, f, g) refl; after = rw (e, f, g) refl }

      module _ (ln : n < length (listed c.terms)) where
        abbrev tests : Outcome
        tests = step_tests (view_of c) a b n (get_or (view_of c).scripts a []) (get_or (view_of c).scripts b []) (get_or (view_of c).scripts 0 []) (tree (listed c.terms) n)

        known : perform (view_of c) (STEP a b n) ≡ tests
        known =
            let e = state_at a la in
            let f = state_at b lb in
            let g = nth_trees (listed c.terms) n ln in
            rw (e, f, g) refl

        by_tests : {x : Outcome} → tests ≡ x → perform (view_of c) (STEP a b n) ≡ x
        by_tests e = known ∙ e

        pub same_agent : a ≡ b → Performed (view_of c) (STEP a b n) (Err refusals.NoTwoParties) (view_of c)
        same_agent q =
            let e = eq-eqb a b q in
            let w = by_tests {x = refuses (view_of c) (STEP a b n) rules.NoTwoParties} (rw e refl) in
            record { answer = rw w refl; after = rw w refl }

        module _ (ne : a ≡ b → ⊥) where
          pub no_sender_name : name_of (view_of c) a ≡ None → Performed (view_of c) (STEP a b n) (Err refusals.NoTwoParties) (view_of c)
          no_sender_name q =
              let e = ne_eqb a b ne in
              let w = by_tests {x = refuses (view_of c) (STEP a b n) rules.NoTwoParties} (rw (e, q) refl) in
              record { answer = rw w refl; after = rw w refl }

          module _ (na : Term) (ea : name_of (view_of c) a ≡ Some na) where
            pub no_receiver_name : name_of (view_of c) b ≡ None → Performed (view_of c) (STEP a b n) (Err refusals.NoTwoParties) (view_of c)
            no_receiver_name q =
                let e = ne_eqb a b ne in
                let w = by_tests {x = refuses (view_of c) (STEP a b n) rules.NoTwoParties} (rw (e, ea, q) refl) in
                record { answer = rw w refl; after = rw w refl }

            module _ (nb : Term) (eb : name_of (view_of c) b ≡ Some nb) where
              pub no_room : 64 ≤ length (steps_of c) → Performed (view_of c) (STEP a b n) (Err refusals.LastStep) (view_of c)
              no_room l =
                  let e = ne_eqb a b ne in
                  let f = le-ltb (length (view_of c).steps) 64 (omega (arith, l, steps_are c)) in
                  let w = by_tests {x = refuses (view_of c) (STEP a b n) rules.LastStep} (rw (e, ea, eb, f) refl) in
                  record { answer = rw w refl; after = rw w refl }

              module _ (room : length (steps_of c) < 64) where
                pub step_addresses : perform (view_of c) (STEP a b n) ≡ addresses (view_of c) a b n (tree (listed c.terms) n) (get_or (view_of c).scripts a []) (get_or (view_of c).scripts b []) (get_or (view_of c).scripts 0 []) na nb
                step_addresses =
                    let e = ne_eqb a b ne in
                    let f = lt-ltb (length (view_of c).steps) 64 (omega (arith, room, steps_are c)) in
                    by_tests (rw (e, ea, eb, f) refl)

                pub no_address : find (get_or (view_of c).scripts a []) nb ≡ None → Performed (view_of c) (STEP a b n) (Err refusals.NoAddress) (view_of c)
                no_address q =
                    let w : perform (view_of c) (STEP a b n) ≡ refuses (view_of c) (STEP a b n) rules.NoAddress = step_addresses ∙ rw q refl in
                    record { answer = rw w refl; after = rw w refl }

  -- the slot of a name
  pub slot_at : (a to : ℕ) (x : Script) → nth (lines_of c) a ≡ Some (written x) → to < length (listed c.terms)
      → slot_of 0 (written x) to ≡ find (get_or (view_of c).scripts a []) (tree (listed c.terms) to)
  slot_at a to x e lt =
      slot_find (listed c.terms) (orderly c.terms) to lt (written x) (named_known _ _ (agent_known c a x e))
      ∙ ap (λ v. find v (tree (listed c.terms) to)) (view_at a x e)

  -- all tests passed
  pub addressed_performs : (a b n : ℕ) (d : Delivery) → Addressed c a b n d
      → perform (view_of c) (STEP a b n) ≡ delivers (view_of c) a b n (tree (listed c.terms) n) (get_or (view_of c).scripts a []) (get_or (view_of c).scripts b []) (get_or (view_of c).scripts 0 [])
      (tree (listed c.terms) d.from) (tree (listed c.terms) d.to) d.address
  addressed_performs a b n d w =
      let q = w.address_is in
      step_addresses a b n w.sender_below w.receiver_below w.message_below w.different (tree (listed c.terms) d.from) w.from_is (tree (listed c.terms) d.to) w.to_is w.room
      ∙ rw q refl
