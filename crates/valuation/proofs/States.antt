-- In every state that came about the terms are settled and the scripts fit: every call keeps it so.
use Rattle.std.proofs.Common.{◌≡◌, ℕ, zero, suc, ◌+◌, ◌≤◌, Bool, true, false, cond, eqb, ltb, ◌⊎◌, List, [], ◌∷◌, ◌++◌, length, get_or, set, is_some, Some, None, Option, sym, refl, ap, subst, inl, inr}
use Rattle.std.proofs.lemmas.Bool.{ltb-false}
use Rattle.deduction.specs.Term.{Kind, party, number, shared, public, table, function, Form, Term, name, built, mate_of, In}
use Rattle.deduction.proofs.Members.{in_left, in_right, in_either}
use Rattle.provider.specs.Algebra.{Algebra}
use Rattle.rules.specs.Script.{Script, find}
use Rattle.rules.specs.Compose.{compose}
use Rattle.rules.specs.Effects.{knows, freshens, sends, received, overheard}
use Rattle.deduction.specs.Decide.{is_key, parts_fit}
use Rattle.rules.specs.State.{State, Call, NAME, BUILD, KNOW, STEP, CAN, Told, formed, mated, Outcome, nth, with, place_of, kind_of, form_of, name_of, fresh_names}
use Rattle.rules.specs.State.{new_terms, new_scripts, names, name_tests, placed, builds, mates, build_tests, too_long, has_no_steps, learns, know_tests, stepped_to, delivers, addresses, step_tests, step_call, can_call, perform}
use Rattle.rules.specs.History.{History, Came}
use Rattle.valuation.specs.Fit.{term_of, terms_of, FitsAfter, Fits, InPlace, Settled}
use Rattle.valuation.specs.Law.{Lawful, TermsHaveValues, TermsSettled, ScriptsFit}
use Rattle.valuation.proofs.Values.{formed_has_value}
use Rattle.valuation.proofs.Scripts.{Slot, KeepsIn, FoundAt, find_stands}
use Rattle.valuation.proofs.Effects.{knows_keeps, sent_keeps, received_keeps, overheard_keeps}
use Rattle.valuation.proofs.Terms.{one_settled, names_settled, settled_formed, settled_small, built_in_place, mate_in_place, nth_in, name_in, fresh_in}

-- every one of the scripts fits the terms
abbrev AllFit : List Term → List Script → Type 0
AllFit terms ss = (s : Script) → In s ss → Fits terms s

-- the terms are settled, and every script fits them
pub record Sound (st : State) : Type 0 where
  pub settled : Settled st.terms
  pub fit : AllFit st.terms st.scripts

-- a script that fits the terms fits more terms
fits_more : (terms more ts : List Term) (s : Script) → FitsAfter terms ts s → FitsAfter (terms ++ more) ts s
fits_more terms more ts [] h = tt
fits_more terms more ts (l ∷ s) h = (h.0, h.1, in_left (term_of ts l.op) terms more h.2, fits_more terms more (ts ++ (term_of ts l.op ∷ [])) s h.3)

all_more : (terms more : List Term) (ss : List Script) → AllFit terms ss → AllFit (terms ++ more) ss
all_more terms more ss h s i = fits_more terms more [] s (h s i)

in_set : {A : Type 0} (xs : List A) (i : ℕ) (v x : A) → In x (set xs i v) → In x xs ⊎ (v ≡ x)
in_set [] i v x h = absurd h
in_set (y ∷ xs) zero v x (inl e) = inr e
in_set (y ∷ xs) zero v x (inr h) = inl (inr h)
in_set (y ∷ xs) (suc i) v x (inl e) = inl (inl e)
in_set (y ∷ xs) (suc i) v x (inr h) = go (in_set xs i v x h)
  where
    go : In x xs ⊎ (v ≡ x) → In x (y ∷ xs) ⊎ (v ≡ x)
    go (inl k) = inl (inr k)
    go (inr e) = inr e

-- one script replaced
set_fit : (terms : List Term) (ss : List Script) (p : ℕ) (s : Script) → AllFit terms ss → Fits terms s → AllFit terms (set ss p s)
set_fit terms ss p s h k x i = go (in_set ss p s x i)
  where
    go : In x ss ⊎ (s ≡ x) → Fits terms x
    go (inl j) = h x j
    go (inr e) = subst (Fits terms) e k

-- the listener's script
listener_fits : (terms : List Term) (ss : List Script) → AllFit terms ss → Fits terms (get_or ss 0 [])
listener_fits terms [] h = tt
listener_fits terms (s ∷ ss) h = h s (inl refl)

-- tests and lookups
with_sound : {A : Type 0} (o : Option A) (b : Outcome) (f : A → Outcome) → Sound b.state → ((a : A) → o ≡ Some a → Sound (f a).state) → Sound (with o b f).state
with_sound None b f h k = h
with_sound (Some a) b f h k = k a refl

cond_sound : (t : Bool) (a b : Outcome) → (t ≡ true → Sound a.state) → (t ≡ false → Sound b.state) → Sound (cond t a b).state
cond_sound true a b h k = h refl
cond_sound false a b h k = k refl

-- NAME

new_fit : (k : Kind) (ts : List Term) → AllFit (ts ++ new_terms k (length ts)) (new_scripts k (length ts))
new_fit party ts s (inl e) =
    let n = length ts in
    subst (Fits (ts ++ new_terms party n)) e (tt, refl, in_right (name party n) ts (new_terms party n) (inl refl), tt)
new_fit party ts s (inr h) = absurd h
new_fit number ts s h = absurd h
new_fit shared ts s h = absurd h
new_fit public ts s h = absurd h
new_fit table ts s h = absurd h
new_fit function ts s h = absurd h

names_sound : (st : State) (k : Kind) → Sound st → length st.terms + length (new_terms k (length st.terms)) ≤ 512 → Sound (names st k).state
names_sound st k h room = record { settled = names_settled k st.terms h.settled room; fit = fit }
  where
    fit : AllFit (st.terms ++ new_terms k (length st.terms)) (st.scripts ++ new_scripts k (length st.terms))
    fit s i = go (in_either s st.scripts (new_scripts k (length st.terms)) i)
      where
        go : In s st.scripts ⊎ In s (new_scripts k (length st.terms)) → Fits (st.terms ++ new_terms k (length st.terms)) s
        go (inl j) = all_more st.terms (new_terms k (length st.terms)) st.scripts h.fit s j
        go (inr j) = new_fit k st.terms s j

name_tests_sound : (st : State) (c : ℕ) (k : Kind) → Sound st → Sound (name_tests st c k).state
name_tests_sound st c k h =
    let n = length st.terms + length (new_terms k (length st.terms)) in
    cond_sound (ltb 512 n) _ _ (λ e. h) (λ e. cond_sound (ltb 8 (length st.scripts + length (new_scripts k (length st.terms)))) _ _ (λ e2. h) (λ e2. names_sound st k h (ltb-false 512 n e)))

module _ (st : State) (h : Sound st) where
  -- BUILD

  placed_sound : (c : Call) (t : Term) (told : ℕ → Told) (o : Option ℕ) → InPlace st.terms t → Sound (placed st c t told o).state
  placed_sound c t told (Some n) k = h
  placed_sound c t told None k =
      cond_sound (ltb (length st.terms) 512) _ _
      (λ e. record { settled = one_settled st.terms t h.settled k; fit = all_more st.terms (t ∷ []) st.scripts h.fit })
      (λ e. h)

  builds_sound : (c : Call) (f : Form) (a b : ℕ) (ta tb : Term) → In ta st.terms → In tb st.terms → Sound (builds st c f a b ta tb).state
  builds_sound c f a b ta tb i j =
      cond_sound (parts_fit f ta tb) _ _
      (λ e. placed_sound c (built f ta tb) (formed f a b) (place_of st.terms (built f ta tb)) (built_in_place st.terms f ta tb i j e))
      (λ e. h)

  mates_sound : (c : Call) (a : ℕ) (ta : Term) → In ta st.terms → Sound (mates st c a ta).state
  mates_sound c a ta i =
      cond_sound (is_key ta) _ _
      (λ e. placed_sound c (mate_of ta) (mated a) (place_of st.terms (mate_of ta)) (mate_in_place st.terms h.settled ta i e))
      (λ e. h)

  build_sound : (f a b : ℕ) → Sound (build_tests st f a b).state
  build_sound f a b =
      cond_sound (eqb f 4) _ _
      (λ e. with_sound (nth st.terms a) _ _ h (λ ta i. mates_sound (BUILD f a b) a ta (nth_in st.terms a ta i)))
      (λ e. with_sound (form_of f) _ _ h (λ form x.
      with_sound (nth st.terms a) _ _ h (λ ta i.
      with_sound (nth st.terms b) _ _ h (λ tb j. builds_sound (BUILD f a b) form a b ta tb (nth_in st.terms a ta i) (nth_in st.terms b tb j)))))

  -- KNOW

  learns_sound : (p n : ℕ) (s : Script) → Fits st.terms s → Sound (learns st p n s).state
  learns_sound p n s k = cond_sound (too_long s) _ _ (λ e. h) (λ e. record { settled = h.settled; fit = set_fit st.terms st.scripts p s h.fit k })

  know_sound : (p n : ℕ) → Sound (know_tests st p n).state
  know_sound p n =
      with_sound (nth st.scripts p) _ _ h (λ s i.
      with_sound (nth st.terms n) _ _ h (λ t j.
      cond_sound (has_no_steps st.steps) _ _
      (λ e. learns_sound p n (knows s t) (knows_keeps st.terms h.settled s t (h.fit s (nth_in st.scripts p s i)) (nth_in st.terms n t j)).fits)
      (λ e. h)))

  -- STEP

  stepped_sound : (a b n : ℕ) (m : Term) (sa sb sl : Script) → Fits st.terms sa → Fits st.terms sb → Fits st.terms sl → Sound (stepped_to st a b n m sa sb sl).state
  stepped_sound a b n m sa sb sl fa fb fl =
      cond_sound (too_long sa) _ _ (λ e. h) (λ e. cond_sound (too_long sb) _ _ (λ e. h) (λ e. cond_sound (too_long sl) _ _ (λ e. h) (λ e.
      record {
        settled = h.settled;
        fit = set_fit st.terms _ 0 sl (set_fit st.terms _ b sb (set_fit st.terms st.scripts a sa h.fit fa) fb) fl;
      })))

  -- the parties' names, the message and the scripts of sender, receiver and listener
  module _ (a b n : ℕ) (m : Term) (sa sb sl : Script) (i : In m st.terms) (fa : Fits st.terms sa) (fb : Fits st.terms sb) (fl : Fits st.terms sl) where
    module _ (na nb : Term) (ia : In na st.terms) (ib : In nb st.terms) where
      delivers_sound : (address : ℕ) → Slot st.terms (terms_of sa) address nb → Sound (delivers st a b n m sa sb sl na nb address).state
      delivers_sound address x =
          let sent = sent_keeps st.terms h.settled sa (fresh_names st m) m nb address fa (fresh_in st m st.terms) i x in
          with_sound (sends address (compose (freshens sa (fresh_names st m)) m)) _ _ h (λ s1 e.
          stepped_sound a b n m s1 (received sb na m) (overheard sl na nb m)
          (subst (KeepsIn st.terms sa) e sent).fits
          (received_keeps st.terms h.settled sb na m fb ia i).fits
          (overheard_keeps st.terms h.settled sl na nb m fl ia ib i).fits)

      addresses_sound : Sound (addresses st a b n m sa sb sl na nb).state
      addresses_sound = with_sound (find sa nb) _ _ h (λ address e. delivers_sound address (subst (FoundAt st.terms (terms_of sa) nb) e (find_stands st.terms sa nb fa)))

    tests_sound : Sound (step_tests st a b n sa sb sl m).state
    tests_sound =
        cond_sound (eqb a b) _ _ (λ e. h) (λ e.
        with_sound (name_of st a) _ _ h (λ na x.
        with_sound (name_of st b) _ _ h (λ nb y.
        cond_sound (ltb (length st.steps) 64) _ _ (λ e. addresses_sound na nb (name_in st a na x) (name_in st b nb y)) (λ e. h))))

  step_sound : (a b n : ℕ) → Sound (step_call st a b n).state
  step_sound a b n =
      with_sound (nth st.scripts a) _ _ h (λ sa x.
      with_sound (nth st.scripts b) _ _ h (λ sb y.
      with_sound (nth st.terms n) _ _ h (λ m z.
      tests_sound a b n m sa sb (get_or st.scripts 0 []) (nth_in st.terms n m z) (h.fit sa (nth_in st.scripts a sa x)) (h.fit sb (nth_in st.scripts b sb y)) (listener_fits st.terms st.scripts h.fit))))

  -- CAN alters nothing

  can_sound : (p n : ℕ) → Sound (can_call st p n).state
  can_sound p n = with_sound (nth st.scripts p) _ _ h (λ s x. with_sound (nth st.terms n) _ _ h (λ t y. h))

  perform_sound : (c : Call) → Sound (perform st c).state
  perform_sound (NAME c) = with_sound (kind_of c) _ _ h (λ k e. name_tests_sound st c k h)
  perform_sound (BUILD f a b) = build_sound f a b
  perform_sound (KNOW p n) = know_sound p n
  perform_sound (STEP a b n) = step_sound a b n
  perform_sound (CAN p n) = can_sound p n

blank_fit : AllFit [] ([] ∷ [])
blank_fit s (inl e) = subst (Fits []) e tt
blank_fit s (inr h) = absurd h

pub came_sound : (past : History) (st : State) → Came past st → Sound st
came_sound [] st e = subst Sound (sym e) (record { settled = λ t i. absurd i; fit = blank_fit })
came_sound (d ∷ past) st w = subst Sound w.2.2 (perform_sound w.0 (came_sound past w.0 w.1) w.2.0)

pub terms_settled : TermsSettled
terms_settled past st w = (came_sound past st w).settled

pub scripts_fit : ScriptsFit
scripts_fit past st w p s e = (came_sound past st w).fit s (nth_in st.scripts p s e)

-- settled terms are well-formed, so they have values
pub terms_have_values : {X : Type 0} {P : X → Type 0} {f : Algebra X} → Lawful P f → TermsHaveValues f
terms_have_values law past st w t i =
    let h = (came_sound past st w).settled in
    ap is_some (formed_has_value law t (settled_formed st.terms h t i) (settled_small st.terms h t i)).1
