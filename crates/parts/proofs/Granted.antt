-- The state's steps are those that the history granted.
use Rattle.std.proofs.Common.{◌≡◌, ℕ, zero, suc, ◌+◌, ◌⊎◌, List, [], ◌∷◌, ◌++◌, length, Some, None, sym, refl, ap, ◌∙◌, subst, inl, inr, arith}
use Rattle.std.proofs.lemmas.List.{length_push}
use Rattle.rules.specs.State.{Step, State, blank, Told, named, formed, mated, known, stepped, asked, refused, nth, perform}
use Rattle.rules.specs.History.{History, Stands}
use Rattle.rules.specs.Invariant.{Numbered}
use Rattle.rules.proofs.Find.{some_none}
use Rattle.rules.proofs.Nth.{some_is, nth_left, nth_right, nth_either}
use Rattle.rules.proofs.Law.{came_stable}
use Rattle.parts.specs.Granted.{grants, granted, PlacedAt, StepsGranted}
use Rattle.parts.specs.Law.{StepsAreGranted}
use Rattle.parts.proofs.Outcomes.{NoStep, Grants, step_of, state_after, Does, alters_nothing, adds_term, adds_name, gives_knowledge, grants_step, call_does}

none_granted : (d : Told) → NoStep d → (gs : List (ℕ × ℕ × ℕ)) → grants gs d ≡ gs
none_granted (named k n) q gs = refl
none_granted (formed f a b n) q gs = refl
none_granted (mated a n) q gs = refl
none_granted (known p n) q gs = refl
none_granted (stepped a b n l) q gs = absurd q
none_granted (asked p n b) q gs = refl
none_granted (refused c r) q gs = refl

none_placed : (d : Told) → NoStep d → (i : ℕ) → PlacedAt i d
none_placed (named k n) q i = tt
none_placed (formed f a b n) q i = tt
none_placed (mated a n) q i = tt
none_placed (known p n) q i = tt
none_placed (stepped a b n l) q i = absurd q
none_placed (asked p n b) q i = tt
none_placed (refused c r) q i = tt

-- what a step's number stands for
abbrev Agrees : History → List (ℕ × ℕ × ℕ) → ℕ → Step → Type 0
Agrees past gs l x = (n : ℕ) × (nth gs l ≡ Some (x.sender, x.receiver, n)) × Stands past n x.message

-- a call that granted no step, and left the steps as they were
same_steps : (past : History) (st st' : State) (d : Told) → NoStep d → st'.steps ≡ st.steps → StepsGranted past st → StepsGranted (d ∷ past) st'
same_steps past st st' d q e v =
    let f = none_granted d q (granted past) in
    record {
      count = ap length f ∙ (v.count ∙ sym (ap length e));
      agree = λ l x h. let w = v.agree l x (sym (ap (λ us. nth us l) e) ∙ h) in (w.0, ap (λ gs. nth gs l) f ∙ w.1, inl w.2);
      places = (v.places, none_placed d q (length (granted past)));
    }

one_step : (past : History) (st : State) → Numbered past st.terms → StepsGranted past st → (a b n : ℕ) (g : Grants st a b n)
    → StepsGranted (stepped a b n (length st.steps) ∷ past) (state_after g)
one_step past st numbers v a b n g =
    record {
      count = (let x = length_push (granted past) (a, b, n) in let y = length_push st.steps (step_of g) in let e = v.count in omega arith);
      agree = λ l x h. go l x (nth_either st.steps (step_of g ∷ []) l x h);
      places = (v.places, sym v.count);
    }
  where
    gs : List (ℕ × ℕ × ℕ)
    gs = granted past ++ ((a, b, n) ∷ [])

    d : Told
    d = stepped a b n (length st.steps)

    last : (l : ℕ) (x : Step) (i : ℕ) → l ≡ i + length st.steps → nth (step_of g ∷ []) i ≡ Some x → Agrees (d ∷ past) gs l x
    last l x zero e h =
        let c = v.count in
        let f : step_of g ≡ x = some_is h in
        let q : l ≡ 0 + length (granted past) = omega arith in
        subst (Agrees (d ∷ past) gs l) f (n, nth_right (granted past) ((a, b, n) ∷ []) 0 l q, inl (numbers.stands_from n g.message g.message_is))
    last l x (suc i) e h = absurd (some_none None h refl)

    go : (l : ℕ) (x : Step) → (nth st.steps l ≡ Some x) ⊎ ((i : ℕ) × (l ≡ i + length st.steps) × (nth (step_of g ∷ []) i ≡ Some x)) → Agrees (d ∷ past) gs l x
    go l x (inl h) = let w = v.agree l x h in (w.0, nth_left (granted past) ((a, b, n) ∷ []) l (x.sender, x.receiver, w.0) w.1, inl w.2)
    go l x (inr w) = last l x w.0 w.1 w.2

granted_after : (past : History) (st : State) → Numbered past st.terms → StepsGranted past st → {d : Told} {st' : State} → Does st d st' → StepsGranted (d ∷ past) st'
granted_after past st numbers v (alters_nothing {d} q) = same_steps past st st d q refl v
granted_after past st numbers v {d} {st'} (adds_term t q l) = same_steps past st st' d q refl v
granted_after past st numbers v {d} {st'} (adds_name k l q) = same_steps past st st' d tt refl v
granted_after past st numbers v {d} {st'} (gives_knowledge p n s t es et q l) = same_steps past st st' d tt refl v
granted_after past st numbers v (grants_step a b n g) = one_step past st numbers v a b n g

granted_blank : StepsGranted [] blank
granted_blank = record { count = refl; agree = λ l x e. absurd (some_none None e refl); places = tt }

pub steps_are_granted : StepsAreGranted
steps_are_granted [] st e = subst (StepsGranted []) (sym e) granted_blank
steps_are_granted (d ∷ past) st w =
    subst (StepsGranted (d ∷ past)) w.2.2
    (subst (λ x. StepsGranted (x ∷ past) (perform w.0 w.2.0).state) w.2.1
    (granted_after past w.0 (came_stable past w.0 w.1).numbers (steps_are_granted past w.0 w.1) (call_does w.0 w.2.0)))
