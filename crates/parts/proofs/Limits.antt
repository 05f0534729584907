-- Every state that came about is within the limits.
use Rattle.std.proofs.Common.{◌≡◌, ℕ, zero, suc, ◌+◌, ◌≤◌, ◌⊎◌, List, [], ◌∷◌, ◌++◌, length, set, Some, None, sym, refl, ap, subst, inl, inr, arith, length-append, length-set}
use Rattle.std.proofs.lemmas.List.{length_push}
use Rattle.deduction.specs.Term.{Kind, party, number, shared, public, table, function}
use Rattle.rules.specs.Script.{Script}
use Rattle.rules.specs.Effects.{knows}
use Rattle.rules.specs.State.{State, blank, Told, nth, new_terms, new_scripts}
use Rattle.rules.proofs.Find.{some_none}
use Rattle.rules.proofs.Nth.{some_is, nth_either, nth_set}
use Rattle.parts.specs.Limits.{WithinLimits}
use Rattle.parts.specs.Law.{StatesWithinLimits}
use Rattle.parts.proofs.Outcomes.{sender_after, receiver_after, listener_after, step_of, Does, alters_nothing, adds_term, adds_name, gives_knowledge, grants_step, call_does}

-- no script is longer than 512
abbrev Short : List Script → Type 0
Short ss = (p : ℕ) (s : Script) → nth ss p ≡ Some s → length s ≤ 512

short_set : (ss : List Script) (i : ℕ) (y : Script) → Short ss → length y ≤ 512 → Short (set ss i y)
short_set ss i y h l p s e = go (nth_set ss i y p s e)
  where
    go : ((p ≡ i) × (s ≡ y)) ⊎ ((p ≡ i → ⊥) × (nth ss p ≡ Some s)) → length s ≤ 512
    go (inl w) = let q : length s ≡ length y = ap length w.1 in omega arith
    go (inr w) = h p s w.1

-- a new party's script has one instruction
new_short : (k : Kind) (n : ℕ) → Short (new_scripts k n)
new_short party n zero s e = let q = ap length (some_is e) in omega arith
new_short party n (suc p) s e = absurd (some_none None e refl)
new_short number n p s e = absurd (some_none None e refl)
new_short shared n p s e = absurd (some_none None e refl)
new_short public n p s e = absurd (some_none None e refl)
new_short table n p s e = absurd (some_none None e refl)
new_short function n p s e = absurd (some_none None e refl)

short_append : (ss us : List Script) → Short ss → Short us → Short (ss ++ us)
short_append ss us h g p s e = go (nth_either ss us p s e)
  where
    go : (nth ss p ≡ Some s) ⊎ ((d : ℕ) × (p ≡ d + length ss) × (nth us d ≡ Some s)) → length s ≤ 512
    go (inl x) = h p s x
    go (inr w) = g w.0 s w.2

limits_after : (st : State) → WithinLimits st → {d : Told} {st' : State} → Does st d st' → WithinLimits st'
limits_after st v (alters_nothing q) = v
limits_after st v (adds_term t q l) =
    record { terms = (let n = length_push st.terms t in omega arith); listener = v.listener; agents = v.agents; steps = v.steps; scripts = v.scripts }
limits_after st v (adds_name k l q) =
    let ts = new_terms k (length st.terms) in
    let ss = new_scripts k (length st.terms) in
    let a = length-append st.terms ts in
    let b = length-append st.scripts ss in
    record {
      terms = omega arith;
      listener = omega (arith, v.listener);
      agents = omega arith;
      steps = v.steps;
      scripts = short_append st.scripts ss v.scripts (new_short k (length st.terms));
    }
limits_after st v (gives_knowledge p n s t es et q l) =
    let a = length-set st.scripts p (knows s t) in
    record {
      terms = v.terms;
      listener = omega (arith, v.listener);
      agents = omega (arith, v.agents);
      steps = v.steps;
      scripts = short_set st.scripts p (knows s t) v.scripts l;
    }
limits_after st v (grants_step a b n g) =
    let x1 : List Script = set st.scripts a (sender_after g) in
    let x2 : List Script = set x1 b (receiver_after g) in
    let e1 = length-set st.scripts a (sender_after g) in
    let e2 = length-set x1 b (receiver_after g) in
    let e3 = length-set x2 0 (listener_after g) in
    record {
      terms = v.terms;
      listener = omega (arith, v.listener);
      agents = omega (arith, v.agents);
      steps = (let m = length_push st.steps (step_of g) in let r = g.room in omega arith);
      scripts =
          short_set x2 0 (listener_after g)
          (short_set x1 b (receiver_after g) (short_set st.scripts a (sender_after g) v.scripts g.sender_fits) g.receiver_fits) g.listener_fits;
    }

limits_blank : WithinLimits blank
limits_blank = record { terms = omega arith; listener = omega arith; agents = omega arith; steps = omega arith; scripts = short }
  where
    short : Short ([] ∷ [])
    short zero s e = let q = ap length (some_is e) in omega arith
    short (suc p) s e = absurd (some_none None e refl)

pub states_within_limits : StatesWithinLimits
states_within_limits [] st e = subst WithinLimits (sym e) limits_blank
states_within_limits (d ∷ past) st w =
    subst WithinLimits w.2.2 (limits_after w.0 (states_within_limits past w.0 w.1) (call_does w.0 w.2.0))
