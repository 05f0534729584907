-- What a call is told as follows from its answer.
use Rattle.std.proofs.Common.{Result, ◌≡◌, ℕ, ◌+◌, Bool, true, false, cond, eqb, ltb, length, Some, None, Option, sym, refl, ap, ◌∙◌, subst, inl, inr}
use Rattle.deduction.specs.Term.{party, Form, pair, Term, mate_of, built}
use Rattle.deduction.specs.Decide.{is_key, parts_fit}
use Rattle.rules.specs.State.{State, Outcome, Told, named, formed, mated, known, stepped, asked, refused, Refusal as RuleRefusal, NAME, BUILD, KNOW, STEP, CAN, nth, with, kind_of, form_of, new_terms, new_scripts, place_of, has_no_steps, too_long, perform}
use Rattle.rules.specs.State as rules
use Rattle.rules.specs.Effects.{knows}
use Rattle.rules.proofs.Nth.{with_both}
use Rattle.protocol.specs.declared.call.Call.{Call}
use Rattle.protocol.specs.declared.call.Call.TheVariants.{Name, Build, Know, Step, CanBuild}
use Rattle.protocol.specs.declared.call.Reply.{Reply}
use Rattle.protocol.specs.declared.refusal.Refusal.{Refusal}
use Rattle.protocol.specs.Outcome.{call_of, answer_of, Performed}
use Rattle.protocol.specs.Refusals.{refusal_of}
use Rattle.protocol.proofs.Laws.{cond_both, StepTold, step_told, CanTold, can_told}
use Rattle.compiled.specs.Histories.{rule_refusal, form_at, told_by}

-- there and back
back : (r : RuleRefusal) → rule_refusal (refusal_of r) ≡ r
back rules.Unknown = refl
back rules.WrongKind = refl
back rules.NoRoom = refl
back rules.EighthParty = refl
back rules.TooLate = refl
back rules.NoTwoParties = refl
back rules.LastStep = refl
back rules.NoAddress = refl
back (rules.Unmakeable t) = refl
back (rules.ScriptFull p) = refl

-- the call's own answer tells it again
abbrev Tells : Call → Told → Type 0
Tells c d = told_by c (answer_of d) ≡ d

tells_refused : (c : Call) (r : RuleRefusal) → Tells c (refused (call_of c) r)
tells_refused (Name k) r = ap (refused (NAME k)) (back r)
tells_refused (Build f a b) r = ap (refused (BUILD f a b)) (back r)
tells_refused (Know p n) r = ap (refused (KNOW p n)) (back r)
tells_refused (Step a b n) r = ap (refused (STEP a b n)) (back r)
tells_refused (CanBuild p n) r = ap (refused (CAN p n)) (back r)

module _ (st : State) where
  name_tells : (k : ℕ) → Tells (Name k) (perform st (NAME k)).told
  name_tells k =
      let P : Outcome → Type 0 = λ o. Tells (Name k) o.told in
      with_both (kind_of k) _ _ P (λ e. tells_refused (Name k) rules.Unknown) (λ x e.
      cond_both P (ltb 512 (length st.terms + length (new_terms x (length st.terms)))) _ _ (tells_refused (Name k) rules.NoRoom)
      (cond_both P (ltb 8 (length st.scripts + length (new_scripts x (length st.terms)))) _ _ (tells_refused (Name k) rules.EighthParty)
      (ap (λ y. named y (length st.terms)) (ap (λ o. with o party (λ z. z)) e))))

  placed_tells : (c : Call) (t : Term) (told : ℕ → Told) → ((n : ℕ) → Tells c (told n)) → (o : Option ℕ) → Tells c (rules.placed st (call_of c) t told o).told
  placed_tells c t told w (Some n) = w n
  placed_tells c t told w None =
      let P : Outcome → Type 0 = λ o. Tells c o.told in
      cond_both P (ltb (length st.terms) 512) _ _ (w (length st.terms)) (tells_refused c rules.NoRoom)

  build_tells : (f a b : ℕ) → Tells (Build f a b) (perform st (BUILD f a b)).told
  build_tells f a b = by (eqb f 4) refl
    where
      mate_told : eqb f 4 ≡ true → (n : ℕ) → Tells (Build f a b) (mated a n)
      mate_told e n = ap (λ x. cond x (mated a n) (formed (form_at f) a b n)) e

      form_told : eqb f 4 ≡ false → (g : Form) → form_of f ≡ Some g → (n : ℕ) → Tells (Build f a b) (formed g a b n)
      form_told e g q n = ap (λ x. cond x (mated a n) (formed (form_at f) a b n)) e ∙ ap (λ o. formed (with o pair (λ z. z)) a b n) q

      by : (x : Bool) → eqb f 4 ≡ x
          → Tells (Build f a b) (cond x (with (nth st.terms a) (rules.refuses st (BUILD f a b) rules.Unknown) (rules.mates st (BUILD f a b) a))
          (with (form_of f) (rules.refuses st (BUILD f a b) rules.Unknown) (λ form.
          with (nth st.terms a) (rules.refuses st (BUILD f a b) rules.Unknown) (λ ta.
          with (nth st.terms b) (rules.refuses st (BUILD f a b) rules.Unknown) (λ tb. rules.builds st (BUILD f a b) form a b ta tb))))).told
      by true e =
          let P : Outcome → Type 0 = λ o. Tells (Build f a b) o.told in
          with_both (nth st.terms a) _ _ P (λ q. tells_refused (Build f a b) rules.Unknown) (λ ta q.
          cond_both P (is_key ta) _ _ (placed_tells (Build f a b) (mate_of ta) (mated a) (mate_told e) (place_of st.terms (mate_of ta))) (tells_refused (Build f a b) rules.WrongKind))
      by false e =
          let P : Outcome → Type 0 = λ o. Tells (Build f a b) o.told in
          with_both (form_of f) _ _ P (λ q. tells_refused (Build f a b) rules.Unknown) (λ g q.
          with_both (nth st.terms a) _ _ P (λ z. tells_refused (Build f a b) rules.Unknown) (λ ta z.
          with_both (nth st.terms b) _ _ P (λ y. tells_refused (Build f a b) rules.Unknown) (λ tb y.
          cond_both P (parts_fit g ta tb) _ _ (placed_tells (Build f a b) (built g ta tb) (formed g a b) (form_told e g q) (place_of st.terms (built g ta tb))) (tells_refused (Build f a b) rules.WrongKind))))

  know_tells : (p n : ℕ) → Tells (Know p n) (perform st (KNOW p n)).told
  know_tells p n =
      let P : Outcome → Type 0 = λ o. Tells (Know p n) o.told in
      with_both (nth st.scripts p) _ _ P (λ e. tells_refused (Know p n) rules.Unknown) (λ s e.
      with_both (nth st.terms n) _ _ P (λ q. tells_refused (Know p n) rules.Unknown) (λ t q.
      cond_both P (has_no_steps st.steps) _ _
      (cond_both P (too_long (knows s t)) _ _ (tells_refused (Know p n) (rules.ScriptFull p)) refl)
      (tells_refused (Know p n) rules.TooLate)))

  step_tells : (a b n : ℕ) → Tells (Step a b n) (perform st (STEP a b n)).told
  step_tells a b n = by (step_told st a b n)
    where
      by : StepTold a b n (perform st (STEP a b n)) → Tells (Step a b n) (perform st (STEP a b n)).told
      by (inl w) = subst (Tells (Step a b n)) (sym w.1) refl
      by (inr w) = subst (Tells (Step a b n)) (sym w.1) (tells_refused (Step a b n) w.0)

  can_tells : (p n : ℕ) → Tells (CanBuild p n) (perform st (CAN p n)).told
  can_tells p n = by (can_told st p n)
    where
      by : CanTold p n (perform st (CAN p n)) → Tells (CanBuild p n) (perform st (CAN p n)).told
      by (inl w) = subst (Tells (CanBuild p n)) (sym w.1) refl
      by (inr w) = subst (Tells (CanBuild p n)) (sym w) (tells_refused (CanBuild p n) rules.Unknown)

  tells : (c : Call) → Tells c (perform st (call_of c)).told
  tells (Name k) = name_tells k
  tells (Build f a b) = build_tells f a b
  tells (Know p n) = know_tells p n
  tells (Step a b n) = step_tells a b n
  tells (CanBuild p n) = can_tells p n

-- the call and its answer tell what the rules tell
pub told_is : (st st' : State) (c : Call) (a : Result Reply Refusal) → Performed st (call_of c) a st' → (perform st (call_of c)).told ≡ told_by c a
told_is st st' c a p = sym (tells st c) ∙ ap (told_by c) (sym p.answer)
