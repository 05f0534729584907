-- What a call can do to a state, all tests passed: nothing, one more term, one more name, initial knowledge, or a step.
use Rattle.std.proofs.Common.{◌≡◌, ℕ, ◌+◌, ◌<◌, ◌≤◌, Bool, true, false, cond, eqb, ltb, List, [], ◌∷◌, ◌++◌, length, get_or, set, Some, None, Option, refl, arith}
use Rattle.std.proofs.lemmas.Bool.{ltb-true, ltb-false, eqb-false}
use Rattle.deduction.specs.Decide.{is_key, parts_fit}
use Rattle.deduction.specs.Term.{Kind, Term, built, mate_of}
use Rattle.rules.specs.Script.{SEND, Script, line, ◌then◌, find}
use Rattle.rules.specs.Compose.{Composed, compose}
use Rattle.rules.specs.Effects.{knows, freshens, received, overheard}
use Rattle.rules.specs.State.{Step, State, Call, NAME, BUILD, KNOW, STEP, CAN, Told, named, formed, mated, known, stepped, asked, refused}
use Rattle.rules.specs.State.{Outcome, nth, place_of, kind_of, form_of, name_of, fresh_names, new_terms, new_scripts, placed, too_long, has_no_steps, stepped_to, delivers, perform}
use Rattle.rules.proofs.Nth.{with_both}

-- the call granted no step
abbrev pub NoStep : Told → Type 0
NoStep (named k n) = Unit {0}
NoStep (formed f a b n) = Unit {0}
NoStep (mated a n) = Unit {0}
NoStep (known p n) = Unit {0}
NoStep (stepped a b n l) = ⊥
NoStep (asked p n b) = Unit {0}
NoStep (refused c r) = Unit {0}

-- a granted step: sender, receiver and the message's number, their scripts and names, the message, and the sender's script with the
-- message composed
pub record Grants (st : State) (a b n : ℕ) : Type 0 where
  pub sender_script : Script
  pub receiver_script : Script
  pub message : Term
  pub sender_name : Term
  pub receiver_name : Term
  pub address : ℕ
  pub composed : Composed
  pub sender_is : nth st.scripts a ≡ Some sender_script
  pub receiver_is : nth st.scripts b ≡ Some receiver_script
  pub message_is : nth st.terms n ≡ Some message
  pub different : a ≡ b → ⊥
  pub sender_named : name_of st a ≡ Some sender_name
  pub receiver_named : name_of st b ≡ Some receiver_name
  pub room : length st.steps < 64
  pub address_found : find sender_script receiver_name ≡ Some address
  pub composes : compose (freshens sender_script (fresh_names st message)) message ≡ Some composed
  pub sender_fits : length (composed.script then line (SEND composed.slot address) None) ≤ 512
  pub receiver_fits : length (received receiver_script sender_name message) ≤ 512
  pub listener_fits : length (overheard (get_or st.scripts 0 []) sender_name receiver_name message) ≤ 512

-- the three scripts after a granted step, and the step
abbrev pub sender_after : {st : State} {a b n : ℕ} → Grants st a b n → Script
sender_after g = g.composed.script then line (SEND g.composed.slot g.address) None

abbrev pub receiver_after : {st : State} {a b n : ℕ} → Grants st a b n → Script
receiver_after g = received g.receiver_script g.sender_name g.message

abbrev pub listener_after : {st : State} {a b n : ℕ} → Grants st a b n → Script
listener_after {st} g = overheard (get_or st.scripts 0 []) g.sender_name g.receiver_name g.message

abbrev pub step_of : {st : State} {a b n : ℕ} → Grants st a b n → Step
step_of {st} {a} {b} g =
    record {
      sender = a;
      receiver = b;
      message = g.message;
      sent = length (sender_after g);
      received = length (receiver_after g);
      heard = length (listener_after g);
    }

abbrev pub state_after : {st : State} {a b n : ℕ} → Grants st a b n → State
state_after {st} {a} {b} g =
    record {
      terms = st.terms;
      scripts = set (set (set st.scripts a (sender_after g)) b (receiver_after g)) 0 (listener_after g);
      steps = st.steps ++ (step_of g ∷ []);
    }

-- what was told, and the state after it
pub data Does (st : State) : Told → State → Type 0 where
  alters_nothing : {d : Told} → NoStep d → Does st d st
  adds_term : {d : Told} (t : Term) → NoStep d → length st.terms < 512
      → Does st d (record { terms = st.terms ++ (t ∷ []); scripts = st.scripts; steps = st.steps })
  adds_name : (k : Kind) → length st.terms + length (new_terms k (length st.terms)) ≤ 512
      → length st.scripts + length (new_scripts k (length st.terms)) ≤ 8
      → Does st (named k (length st.terms))
      (record { terms = st.terms ++ new_terms k (length st.terms); scripts = st.scripts ++ new_scripts k (length st.terms); steps = st.steps })
  gives_knowledge : (p n : ℕ) (s : Script) (t : Term) → nth st.scripts p ≡ Some s → nth st.terms n ≡ Some t → st.steps ≡ [] → length (knows s t) ≤ 512
      → Does st (known p n) (record { terms = st.terms; scripts = set st.scripts p (knows s t); steps = st.steps })
  grants_step : (a b n : ℕ) (g : Grants st a b n) → Does st (stepped a b n (length st.steps)) (state_after g)

abbrev pub DoesOutcome : State → Outcome → Type 0
DoesOutcome st o = Does st o.told o.state

cond_does : (st : State) (b : Bool) (x y : Outcome) → (b ≡ true → DoesOutcome st x) → (b ≡ false → DoesOutcome st y) → DoesOutcome st (cond b x y)
cond_does st true x y t f = t refl
cond_does st false x y t f = f refl

no_steps : (us : List Step) → has_no_steps us ≡ true → us ≡ []
no_steps [] e = refl
no_steps (u ∷ us) e = let z : ◌≡◌ {A = ℕ} 0 1 = cc in absurd (omega arith)

module _ (st : State) where
  abbrev D : Outcome → Type 0
  D = DoesOutcome st

  placed_does : (c : Call) (t : Term) (told : ℕ → Told) → ((n : ℕ) → NoStep (told n)) → (o : Option ℕ) → D (placed st c t told o)
  placed_does c t told q (Some n) = alters_nothing (q n)
  placed_does c t told q None =
      cond_does st (ltb (length st.terms) 512) _ _ (λ l. adds_term t (q (length st.terms)) (ltb-true (length st.terms) 512 l)) (λ l. alters_nothing tt)

  -- the scripts after a step, if none is too long
  stepped_does : (a b n : ℕ) (m : Term) (sa sb sl : Script)
      → (length sa ≤ 512 → length sb ≤ 512 → length sl ≤ 512 → Does st (stepped a b n (length st.steps))
      (record {
        terms = st.terms;
        scripts = set (set (set st.scripts a sa) b sb) 0 sl;
        steps = st.steps ++ (record { sender = a; receiver = b; message = m; sent = length sa; received = length sb; heard = length sl } ∷ []);
      })) → D (stepped_to st a b n m sa sb sl)
  stepped_does a b n m sa sb sl does =
      cond_does st (too_long sa) _ _ (λ la. alters_nothing tt)
      (λ la. cond_does st (too_long sb) _ _ (λ lb. alters_nothing tt)
      (λ lb. cond_does st (too_long sl) _ _ (λ ll. alters_nothing tt)
      (λ ll. does (ltb-false 512 (length sa) la) (ltb-false 512 (length sb) lb) (ltb-false 512 (length sl) ll))))

  step_does : (a b n : ℕ) → D (perform st (STEP a b n))
  step_does a b n =
      with_both (nth st.scripts a) _ _ D (λ e. alters_nothing tt)
      (λ sa ea. with_both (nth st.scripts b) _ _ D (λ e. alters_nothing tt)
      (λ sb eb. with_both (nth st.terms n) _ _ D (λ e. alters_nothing tt)
      (λ m em. cond_does st (eqb a b) _ _ (λ q. alters_nothing tt)
      (λ q. with_both (name_of st a) _ _ D (λ e. alters_nothing tt)
      (λ na ena. with_both (name_of st b) _ _ D (λ e. alters_nothing tt)
      (λ nb enb. cond_does st (ltb (length st.steps) 64) _ _
      (λ r. with_both (find sa nb) _ _ D (λ e. alters_nothing tt)
      (λ address at. delivered sa sb m na nb address ea eb em (eqb-false a b q) ena enb (ltb-true (length st.steps) 64 r) at
      (compose (freshens sa (fresh_names st m)) m) refl))
      (λ r. alters_nothing tt)))))))
    where
      delivered : (sa sb : Script) (m na nb : Term) (address : ℕ) → nth st.scripts a ≡ Some sa → nth st.scripts b ≡ Some sb → nth st.terms n ≡ Some m
          → (a ≡ b → ⊥) → name_of st a ≡ Some na → name_of st b ≡ Some nb → length st.steps < 64 → find sa nb ≡ Some address
          → (o : Option Composed) → compose (freshens sa (fresh_names st m)) m ≡ o
          → D (delivers st a b n m sa sb (get_or st.scripts 0 []) na nb address)
      delivered sa sb m na nb address ea eb em ab ena enb r at None e = rw e (alters_nothing tt)
      delivered sa sb m na nb address ea eb em ab ena enb r at (Some c) e =
          rw e (stepped_does a b n m (c.script then line (SEND c.slot address) None) (received sb na m) (overheard (get_or st.scripts 0 []) na nb m)
          (λ la lb ll. grants_step a b n (record {
            sender_script = sa;
            receiver_script = sb;
            message = m;
            sender_name = na;
            receiver_name = nb;
            address = address;
            composed = c;
            sender_is = ea;
            receiver_is = eb;
            message_is = em;
            different = ab;
            sender_named = ena;
            receiver_named = enb;
            room = r;
            address_found = at;
            composes = e;
            sender_fits = la;
            receiver_fits = lb;
            listener_fits = ll;
          })))

  -- every call does one of these
  pub call_does : (c : Call) → Does st (perform st c).told (perform st c).state
  call_does (NAME c) =
      with_both (kind_of c) _ _ D (λ e. alters_nothing tt)
      (λ k e. cond_does st (ltb 512 (length st.terms + length (new_terms k (length st.terms)))) _ _ (λ l. alters_nothing tt)
      (λ l. cond_does st (ltb 8 (length st.scripts + length (new_scripts k (length st.terms)))) _ _ (λ q. alters_nothing tt)
      (λ q. adds_name k (ltb-false 512 (length st.terms + length (new_terms k (length st.terms))) l)
      (ltb-false 8 (length st.scripts + length (new_scripts k (length st.terms))) q))))
  call_does (BUILD f a b) =
      cond_does st (eqb f 4) _ _
      (λ q. with_both (nth st.terms a) _ _ D (λ e. alters_nothing tt)
      (λ x ea. cond_does st (is_key x) _ _ (λ y. placed_does c (mate_of x) (mated a) (λ n. tt) (place_of st.terms (mate_of x))) (λ y. alters_nothing tt)))
      (λ q. with_both (form_of f) _ _ D (λ e. alters_nothing tt)
      (λ form ef. with_both (nth st.terms a) _ _ D (λ e. alters_nothing tt)
      (λ x ea. with_both (nth st.terms b) _ _ D (λ e. alters_nothing tt)
      (λ y eb. cond_does st (parts_fit form x y) _ _ (λ p. placed_does c (built form x y) (formed form a b) (λ n. tt) (place_of st.terms (built form x y)))
      (λ p. alters_nothing tt)))))
    where
      c : Call
      c = BUILD f a b
  call_does (KNOW p n) =
      with_both (nth st.scripts p) _ _ D (λ e. alters_nothing tt)
      (λ s es. with_both (nth st.terms n) _ _ D (λ e. alters_nothing tt)
      (λ t et. cond_does st (has_no_steps st.steps) _ _
      (λ q. cond_does st (too_long (knows s t)) _ _ (λ l. alters_nothing tt)
      (λ l. gives_knowledge p n s t es et (no_steps st.steps q) (ltb-false 512 (length (knows s t)) l)))
      (λ q. alters_nothing tt)))
  call_does (STEP a b n) = step_does a b n
  call_does (CAN p n) =
      with_both (nth st.scripts p) _ _ D (λ e. alters_nothing tt)
      (λ s es. with_both (nth st.terms n) _ _ D (λ e. alters_nothing tt) (λ t et. alters_nothing tt))
