-- Where a step's parts begin: where the scripts ended when it was granted, for good.
use Rattle.std.proofs.Common.{◌≡◌, ℕ, ◌<◌, ◌≤◌, [], ◌∷◌, ◌++◌, length, get_or, take, Some, sym, refl, ap, ◌∙◌, subst, arith}
use Rattle.std.proofs.lemmas.List.{take_all, take-append-le}
use Rattle.rules.specs.Script.{Script}
use Rattle.rules.specs.State.{State, STEP, Told, stepped, nth}
use Rattle.rules.proofs.Nth.{nth_at}
use Rattle.parts.specs.Law.{PartsFollow}
use Rattle.parts.specs.Parts.{script_of, initial, reached, begin}
use Rattle.parts.proofs.Outcomes.{NoStep, Grants, step_of, state_after, Does, alters_nothing, adds_term, adds_name, gives_knowledge, grants_step, call_does}
use Rattle.parts.proofs.Played.{read_at, above, Played, came_played, name_initial, step_initial, next}

module _ (st : State) (v : Played st) where
  -- the beginnings of earlier steps stay
  begin_stays : {d : Told} {st' : State} → Does st d st' → (l p : ℕ) → l < length st.steps → 1 ≤ p → p < length st.scripts → begin st' l p ≡ begin st l p
  begin_stays (alters_nothing q) l p low h k = refl
  begin_stays (adds_term t q few) l p low h k = refl
  begin_stays (adds_name j few q) l p low h k = ap (λ n. reached (take l st.steps) n p) (name_initial st v j p (get_or st.scripts p []) h (nth_at st.scripts p [] k))
  begin_stays (gives_knowledge q n s t es et none few) l p low h k = absurd (omega (arith, ap length none))
  begin_stays (grants_step a b n g) l p low h k =
      ap (λ us. reached us (initial (state_after g) p) p) (take-append-le l st.steps (step_of g ∷ []) (omega arith))
      ∙ ap (λ m. reached (take l st.steps) m p) (step_initial st v a b n g p h)

  -- a new step's parts begin where the scripts ended
  new_begins : (a b n : ℕ) (g : Grants st a b n) (p : ℕ) (s : Script) → 1 ≤ p → nth st.scripts p ≡ Some s
      → begin (state_after g) (length st.steps) p ≡ length (script_of st p)
  new_begins a b n g p s h e =
      let f : take (length st.steps) (st.steps ++ (step_of g ∷ [])) ≡ st.steps =
      take-append-le (length st.steps) st.steps (step_of g ∷ []) (omega arith) ∙ take_all (length st.steps) st.steps (omega arith) in
      ap (λ us. reached us (initial (state_after g) p) p) f
      ∙ (sym (next st v a b n g p s h e) ∙ ap length (sym (read_at st.scripts p s [] e)))

  abbrev BothBegin : State → ℕ → ℕ → ℕ → Type 0
  BothBegin st' l a b = (begin st' l a ≡ length (script_of st a)) × (begin st' l b ≡ length (script_of st b))

  -- what was told tells which step was granted
  granted_begins : {d : Told} {st' : State} → Does st d st' → (a b n l : ℕ) → d ≡ stepped a b n l → BothBegin st' l a b
  granted_begins (alters_nothing q) a b n l e = absurd (subst NoStep e q)
  granted_begins (adds_term t q few) a b n l e = absurd (subst NoStep e q)
  granted_begins (adds_name j few q) a b n l e = absurd (subst NoStep e tt)
  granted_begins (gives_knowledge q k s t es et none few) a b n l e = absurd (subst NoStep e tt)
  granted_begins (grants_step a' b' n' g) a b n l e =
      let ea : a' ≡ a = cc in
      let eb : b' ≡ b = cc in
      let el : length st.steps ≡ l = cc in
      let x : BothBegin (state_after g) (length st.steps) a' b' = (
        new_begins a' b' n' g a' g.sender_script (above st a' g.sender_name g.sender_named) g.sender_is,
        new_begins a' b' n' g b' g.receiver_script (above st b' g.receiver_name g.receiver_named) g.receiver_is,
      ) in
      subst (λ m. BothBegin (state_after g) m a b) el
      (subst (λ m. BothBegin (state_after g) (length st.steps) m b) ea (subst (λ m. BothBegin (state_after g) (length st.steps) a' m) eb x))

pub parts_follow : PartsFollow
parts_follow past st came =
    let v = came_played past st came in
    record {
      new = λ a b n l e. granted_begins st v (call_does st (STEP a b n)) a b n l e;
      old = λ c l p low h k. begin_stays st v (call_does st c) l p low h k;
    }
