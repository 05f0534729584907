-- The law on refusals, from what the rules' answers say.
use Rattle.std.proofs.Common.{◌≡◌, ℕ, Bool, true, false, cond, eqb, ltb, ◌⊎◌, [], length, get_or, Ok, Err, Result, sym, refl, ap, ◌∙◌, subst, inl, inr, arith}
use Rattle.std.specs.Prelude.{IsErrAnd}
use Rattle.std.proofs.lemmas.Result.{err_from_is_err_and}
use Rattle.deduction.specs.Term.{Term}
use Rattle.rules.specs.Script.{find}
use Rattle.rules.specs.Compose.{compose}
use Rattle.rules.specs.Effects.{freshens, sends, received, overheard}
use Rattle.rules.specs.State.{State, Outcome, Told, stepped, asked, refused, STEP, CAN, Refusal as RuleRefusal, nth, with, name_of, fresh_names, too_long, perform}
use Rattle.rules.specs.State as rules
use Rattle.rules.specs.History.{History, Came, Stands, AnsweredRight, RefusedStep}
use Rattle.rules.specs.Theorems.{MissingTold}
use Rattle.rules.proofs.Law.{answers_are_right_lem, missing_is_named}
use Rattle.rules.proofs.Nth.{with_both}
use Rattle.protocol.specs.declared.call.Reply.TheVariants.{Number, Said}
use Rattle.protocol.specs.declared.refusal.Refusal.{Refusal}
use Rattle.protocol.specs.Laws.{StepRight, StepLaw, SaidRight, CanBuildLaw}
use Rattle.protocol.specs.Outcome.{answer_of, number, said, Performed}
use Rattle.protocol.specs.Refusals.{refusal_of}

pub cond_both : (P : Outcome → Type 0) (b : Bool) (x y : Outcome) → P x → P y → P (cond b x y)
cond_both P true x y p q = p
cond_both P false x y p q = q

-- what a step tells is of that step
abbrev pub StepTold : ℕ → ℕ → ℕ → Outcome → Type 0
StepTold a b n o = ((l : ℕ) × (o.told ≡ stepped a b n l)) ⊎ ((r : RuleRefusal) × (o.told ≡ refused (STEP a b n) r))

pub step_told : (st : State) (a b n : ℕ) → StepTold a b n (perform st (STEP a b n))
step_told st a b n =
    let P : Outcome → Type 0 = StepTold a b n in
    with_both (nth st.scripts a) _ _ P (λ e. inr (rules.Unknown, refl)) (λ sa ea.
    with_both (nth st.scripts b) _ _ P (λ e. inr (rules.Unknown, refl)) (λ sb eb.
    with_both (nth st.terms n) _ _ P (λ e. inr (rules.Unknown, refl)) (λ m em.
    cond_both P (eqb a b) _ _ (inr (rules.NoTwoParties, refl))
    (with_both (name_of st a) _ _ P (λ e. inr (rules.NoTwoParties, refl)) (λ na ea.
    with_both (name_of st b) _ _ P (λ e. inr (rules.NoTwoParties, refl)) (λ nb eb.
    cond_both P (ltb (length st.steps) 64) _ _
    (with_both (find sa nb) _ _ P (λ e. inr (rules.NoAddress, refl)) (λ address ad.
    with_both (sends address (compose (freshens sa (fresh_names st m)) m)) _ _ P (λ e. inr (_, refl)) (λ sa' es.
    cond_both P (too_long sa') _ _ (inr (rules.ScriptFull a, refl))
    (cond_both P (too_long (received sb na m)) _ _ (inr (rules.ScriptFull b, refl))
    (cond_both P (too_long (overheard (get_or st.scripts 0 []) na nb m)) _ _ (inr (rules.ScriptFull 0, refl)) (inl (length st.steps, refl)))))))
    (inr (rules.LastStep, refl))))))))

abbrev pub CanTold : ℕ → ℕ → Outcome → Type 0
CanTold p n o = ((b : Bool) × (o.told ≡ asked p n b)) ⊎ (o.told ≡ refused (CAN p n) rules.Unknown)

pub can_told : (st : State) (p n : ℕ) → CanTold p n (perform st (CAN p n))
can_told st p n =
    with_both (nth st.scripts p) _ _ (CanTold p n) (λ e. inr refl) (λ s es.
    with_both (nth st.terms n) _ _ (CanTold p n) (λ e. inr refl) (λ t et. inl (_, refl)))

number_ok : (r : Result ℕ Refusal) (l : ℕ) → number r ≡ Ok (Number l) → r ≡ Ok l
number_ok (Ok n) l e = cc
number_ok (Err x) l e = let z : ◌≡◌ {A = ℕ} 0 1 = cc in absurd (omega arith)

number_refused : (r : Result ℕ Refusal) (x : Refusal) → number r ≡ Err x → r ≡ Err x
number_refused (Ok n) x e = let z : ◌≡◌ {A = ℕ} 0 1 = cc in absurd (omega arith)
number_refused (Err y) x e = cc

said_ok : (r : Result Bool Refusal) (b : Bool) → said r ≡ Ok (Said b) → r ≡ Ok b
said_ok (Ok n) b e = cc
said_ok (Err x) b e = let z : ◌≡◌ {A = ℕ} 0 1 = cc in absurd (omega arith)

said_refused : (r : Result Bool Refusal) (x : Refusal) → said r ≡ Err x → r ≡ Err x
said_refused (Ok n) x e = let z : ◌≡◌ {A = ℕ} 0 1 = cc in absurd (omega arith)
said_refused (Err y) x e = cc

module _ (past : History) (a : ℕ) (t : Term) where
  -- a refusal of the rules, by number
  refused_right : (b n : ℕ) (r : RuleRefusal) → Stands past n t → RefusedStep past a t r → MissingTold past (refused (STEP a b n) r) → StepRight past a t (Err (refusal_of r))
  refused_right b n rules.Unknown s w m = tt
  refused_right b n rules.WrongKind s w m = w
  refused_right b n rules.NoRoom s w m = w
  refused_right b n rules.EighthParty s w m = w
  refused_right b n rules.TooLate s w m = w
  refused_right b n rules.NoTwoParties s w m = tt
  refused_right b n rules.LastStep s w m = tt
  refused_right b n rules.NoAddress s w m = tt
  refused_right b n (rules.Unmakeable x) s w m = (w, m t s)
  refused_right b n (rules.ScriptFull p) s w m = w

pub step_law : (st st' : State) (a b n : ℕ) (r : Result ℕ Refusal) → Performed st (STEP a b n) (number r) st' → StepLaw st a n r
step_law st st' a b n r p = record { right = λ past came t s. go past came t s (step_told st a b n) }
  where
    go : (past : History) → Came past st → (t : Term) → Stands past n t → StepTold a b n (perform st (STEP a b n)) → StepRight past a t r
    go past came t s (inl w) =
        let e = number_ok r w.0 (p.answer ∙ ap answer_of w.1) in
        let q : AnsweredRight past (stepped a b n w.0) = subst (AnsweredRight past) w.1 (answers_are_right_lem past st came (STEP a b n)) in
        subst (StepRight past a t) (sym e) (q t s)
    go past came t s (inr w) =
        let e = number_refused r (refusal_of w.0) (p.answer ∙ ap answer_of w.1) in
        let q : AnsweredRight past (refused (STEP a b n) w.0) = subst (AnsweredRight past) w.1 (answers_are_right_lem past st came (STEP a b n)) in
        let m : MissingTold past (refused (STEP a b n) w.0) = subst (MissingTold past) w.1 (missing_is_named past st came (STEP a b n)) in
        subst (StepRight past a t) (sym e) (refused_right past a t b n w.0 s (q t s) m)

pub can_law : (st st' : State) (p n : ℕ) (r : Result Bool Refusal) → Performed st (CAN p n) (said r) st' → CanBuildLaw st p n r
can_law st st' p n r w = record { right = λ past came t s. go past came t s (can_told st p n) }
  where
    go : (past : History) → Came past st → (t : Term) → Stands past n t → CanTold p n (perform st (CAN p n)) → SaidRight past p t r
    go past came t s (inl x) =
        let e = said_ok r x.0 (w.answer ∙ ap answer_of x.1) in
        let q : AnsweredRight past (asked p n x.0) = subst (AnsweredRight past) x.1 (answers_are_right_lem past st came (CAN p n)) in
        subst (SaidRight past p t) (sym e) (q t s)
    go past came t s (inr x) =
        let e = said_refused r (refusal_of rules.Unknown) (w.answer ∙ ap answer_of x) in
        subst (SaidRight past p t) (sym e) tt

-- a refusal that is passed on
pub refused_law : (st : State) (a b n : ℕ) (e : Refusal) (r : Result ℕ Refusal) → IsErrAnd r (λ x. x ≡ e) → Performed st (STEP a b n) (Err e) st → StepLaw st a n r
refused_law st a b n e r h p =
    let q = err_from_is_err_and r h in
    step_law st st a b n r (subst (λ o. Performed st (STEP a b n) (number o) st) (sym (q.1 ∙ ap Err q.2)) p)
