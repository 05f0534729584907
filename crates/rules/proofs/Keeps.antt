-- A call keeps the terms at their numbers and adds to scripts only at their ends.
use Rattle.std.proofs.Common.{◌≡◌, ℕ, ◌+◌, Bool, true, false, cond, eqb, ltb, ◌⊎◌, List, [], ◌∷◌, ◌++◌, length, get_or, set, Some, None, Option, sym, refl, ap, ◌∙◌, subst, inl, inr, append_assoc, arith}
use Rattle.std.proofs.lemmas.List.{append-nil}
use Rattle.std.proofs.lemmas.Bool.{eqb-false, cases_eq}
use Rattle.deduction.specs.Term.{Term, built, mate_of}
use Rattle.rules.specs.Script.{Script, find}
use Rattle.rules.specs.Effects.{knows, sent, received, overheard}
use Rattle.deduction.specs.Decide.{is_key, parts_fit}
use Rattle.rules.specs.State.{Step, State, Call, NAME, BUILD, KNOW, STEP, CAN, Told, formed, mated, Outcome, nth, place_of, kind_of, form_of}
use Rattle.rules.specs.State.{name_of, fresh_names, new_terms, new_scripts, placed, too_long, has_no_steps, perform}
use Rattle.rules.specs.Grows.{Begins}
use Rattle.rules.specs.Theorems.{Keeps, CallsOnlyAdd}
use Rattle.rules.proofs.Nth.{name_above, some_is, nth_below, nth_first, nth_left, nth_set_same, nth_set_other, with_both}
use Rattle.rules.proofs.Begins.{knows_begins, received_begins, overheard_begins, sent_begins}

begins_same : (s : Script) → Begins s s
begins_same s = ([], sym (append-nil s))

-- each script of the first list goes on in the second
abbrev Grown : List Script → List Script → Type 0
Grown ss ss' = (p : ℕ) (s : Script) → nth ss p ≡ Some s → (s' : Script) × (nth ss' p ≡ Some s') × Begins s s'

grown_set : (ss : List Script) (i : ℕ) (x y : Script) → nth ss i ≡ Some x → Begins x y → Grown ss (set ss i y)
grown_set ss i x y e b p s h = go (cases_eq p i)
  where
    go : (p ≡ i) ⊎ (p ≡ i → ⊥) → (s' : Script) × (nth (set ss i y) p ≡ Some s') × Begins s s'
    go (inl q) =
        let f : x ≡ s = some_is (sym e ∙ (sym (ap (nth ss) q) ∙ h)) in
        (y, ap (nth (set ss i y)) q ∙ nth_set_same ss i x y e, subst (λ z. Begins z y) f b)
    go (inr n) = (s, nth_set_other ss i y p s n h, begins_same s)

begins_join : (a b c : Script) → Begins a b → Begins b c → Begins a c
begins_join a b c x y = (x.0 ++ y.0, y.1 ∙ (ap (λ z. z ++ y.0) x.1 ∙ append_assoc a x.0 y.0))

grown_join : (x y z : List Script) → Grown x y → Grown y z → Grown x z
grown_join x y z f g p s h = let a = f p s h in let b = g p a.0 a.1 in (b.0, b.1, begins_join s a.0 b.0 a.2 b.2)

cond_keeps : (st : State) (b : Bool) (x y : Outcome) → (b ≡ true → Keeps st x.state) → (b ≡ false → Keeps st y.state)
    → Keeps st (cond b x y).state
cond_keeps st true x y t f = t refl
cond_keeps st false x y t f = f refl

module _ (st : State) where
  abbrev K : Outcome → Type 0
  K o = Keeps st o.state

  stays : Keeps st st
  stays = record { numbers = λ n t e. e; scripts = λ p s e. (s, e, begins_same s) }

  -- the scripts alone change
  writes : (ss : List Script) (us : List Step) → Grown st.scripts ss → Keeps st (record { terms = st.terms; scripts = ss; steps = us })
  writes ss us g = record { numbers = λ n t e. e; scripts = g }

  placed_keeps : (c : Call) (t : Term) (told : ℕ → Told) (o : Option ℕ) → Keeps st (placed st c t told o).state
  placed_keeps c t told (Some n) = stays
  placed_keeps c t told None =
      cond_keeps st (ltb (length st.terms) 512) _ _
      (λ l. record { numbers = nth_left st.terms (t ∷ []); scripts = λ p s e. (s, e, begins_same s) })
      (λ l. stays)

  -- the scripts of sender, receiver and listener after a step
  three : (a b : ℕ) (sa sb sa' sb' sl' : Script) → nth st.scripts a ≡ Some sa → nth st.scripts b ≡ Some sb
      → (a ≡ b → ⊥) → (a ≡ 0 → ⊥) → (b ≡ 0 → ⊥) → Begins sa sa' → Begins sb sb' → Begins (get_or st.scripts 0 []) sl'
      → Grown st.scripts (set (set (set st.scripts a sa') b sb') 0 sl')
  three a b sa sb sa' sb' sl' ea eb ab a0 b0 wa wb wl =
      grown_join st.scripts x2 (set x2 0 sl')
      (grown_join st.scripts x1 x2 (grown_set st.scripts a sa sa' ea wa)
      (grown_set x1 b sb sb' (nth_set_other st.scripts a sa' b sb (λ e. ab (sym e)) eb) wb))
      (grown_set x2 0 sl sl' (nth_set_other x1 b sb' 0 sl (λ e. b0 (sym e)) (nth_set_other st.scripts a sa' 0 sl (λ e. a0 (sym e)) first)) wl)
    where
      sl : Script
      sl = get_or st.scripts 0 []

      x1 : List Script
      x1 = set st.scripts a sa'

      x2 : List Script
      x2 = set x1 b sb'

      first : nth st.scripts 0 ≡ Some (get_or st.scripts 0 [])
      first = let l = nth_below st.scripts a sa ea in nth_first st.scripts [] (omega arith)

  step_keeps : (a b n : ℕ) → Keeps st (perform st (STEP a b n)).state
  step_keeps a b n =
      with_both (nth st.scripts a) _ _ K (λ e. stays)
      (λ sa ea. with_both (nth st.scripts b) _ _ K (λ e. stays)
      (λ sb eb. with_both (nth st.terms n) _ _ K (λ e. stays)
      (λ m em. cond_keeps st (eqb a b) _ _ (λ q. stays)
      (λ q. with_both (name_of st a) _ _ K (λ e. stays)
      (λ na ena. with_both (name_of st b) _ _ K (λ e. stays)
      (λ nb enb. cond_keeps st (ltb (length st.steps) 64) _ _
      (λ r. with_both (find sa nb) _ _ K (λ e. stays)
      (λ address at. with_both (sent sa (fresh_names st m) m address) _ _ K (λ e. stays)
      (λ sa' es. cond_keeps st (too_long sa') _ _ (λ l. stays)
      (λ l. cond_keeps st (too_long (received sb na m)) _ _ (λ l2. stays)
      (λ l2. cond_keeps st (too_long (overheard sl na nb m)) _ _ (λ l3. stays)
      (λ l3. writes (set (set (set st.scripts a sa') b (received sb na m)) 0 (overheard sl na nb m)) _
      (three a b sa sb sa' (received sb na m) (overheard sl na nb m) ea eb (eqb-false a b q) (name_above st.terms a na ena) (name_above st.terms b nb enb)
      (sent_begins sa (fresh_names st m) m address sa' es) (received_begins sb na m) (overheard_begins sl na nb m))))))))
      (λ r. stays)))))))
    where
      sl : Script
      sl = get_or st.scripts 0 []

  call_keeps : (c : Call) → Keeps st (perform st c).state
  call_keeps (NAME c) =
      with_both (kind_of c) _ _ K (λ e. stays)
      (λ k e. cond_keeps st (ltb 512 (length st.terms + length (new_terms k (length st.terms)))) _ _ (λ l. stays)
      (λ l. cond_keeps st (ltb 8 (length st.scripts + length (new_scripts k (length st.terms)))) _ _ (λ q. stays)
      (λ q. record {
        numbers = nth_left st.terms (new_terms k (length st.terms));
        scripts = λ p s f. (s, nth_left st.scripts (new_scripts k (length st.terms)) p s f, begins_same s);
      })))
  call_keeps (BUILD f a b) =
      cond_keeps st (eqb f 4) _ _
      (λ q. with_both (nth st.terms a) _ _ K (λ e. stays)
      (λ x ea. cond_keeps st (is_key x) _ _ (λ y. placed_keeps c (mate_of x) (mated a) (place_of st.terms (mate_of x))) (λ y. stays)))
      (λ q. with_both (form_of f) _ _ K (λ e. stays)
      (λ form ef. with_both (nth st.terms a) _ _ K (λ e. stays)
      (λ x ea. with_both (nth st.terms b) _ _ K (λ e. stays)
      (λ y eb. cond_keeps st (parts_fit form x y) _ _ (λ p. placed_keeps c (built form x y) (formed form a b) (place_of st.terms (built form x y))) (λ p. stays)))))
    where
      c : Call
      c = BUILD f a b
  call_keeps (KNOW p n) =
      with_both (nth st.scripts p) _ _ K (λ e. stays)
      (λ s es. with_both (nth st.terms n) _ _ K (λ e. stays)
      (λ t et. cond_keeps st (has_no_steps st.steps) _ _
      (λ q. cond_keeps st (too_long (knows s t)) _ _ (λ l. stays)
      (λ l. writes (set st.scripts p (knows s t)) st.steps (grown_set st.scripts p s (knows s t) es (knows_begins s t))))
      (λ q. stays)))
  call_keeps (STEP a b n) = step_keeps a b n
  call_keeps (CAN p n) =
      with_both (nth st.scripts p) _ _ K (λ e. stays)
      (λ s es. with_both (nth st.terms n) _ _ K (λ e. stays) (λ t et. stays))

pub calls_only_add_lem : CallsOnlyAdd
calls_only_add_lem = call_keeps
