-- What holds of steps and parties in every state that came about: every call keeps it.
use Rattle.std.proofs.Common.{◌≡◌, ℕ, zero, suc, ◌+◌, ◌≤◌, ◌⊎◌, List, [], ◌∷◌, ◌++◌, length, get_or, take, set, Some, None, sym, refl, ap, ◌∙◌, subst, inl, inr, arith}
use Rattle.std.proofs.lemmas.Bool.{cases_eq}
use Rattle.std.proofs.lemmas.List.{append-nil, get_or_append_left, get_or-set_other, take_all, take-append-le}
use Rattle.deduction.specs.Term.{Kind, party, number, shared, public, table, function, Term, name, In}
use Rattle.rules.specs.Script.{Script}
use Rattle.rules.specs.Effects.{knows}
use Rattle.rules.specs.State.{Step, State, blank, Told, nth, name_of, new_terms, new_scripts, fresh_names, perform}
use Rattle.rules.specs.History.{History, Came}
use Rattle.rules.specs.Grows.{Begins}
use Rattle.rules.specs.Theorems.{Keeps}
use Rattle.rules.specs.Invariant.{Stable}
use Rattle.rules.proofs.Find.{some_none}
use Rattle.rules.proofs.Nth.{some_is, nth_in, in_nth, nth_below, nth_at, nth_either, nth_set, nth_set_other, nth_set_same}
use Rattle.rules.proofs.Begins.{begins_length, received_begins}
use Rattle.rules.proofs.Keeps.{calls_only_add_lem}
use Rattle.rules.proofs.Law.{came_stable}
use Rattle.parts.specs.Kinds.{Starts}
use Rattle.parts.specs.Opening.{opening}
use Rattle.parts.specs.Parts.{initial, reached, sent_from, received_from, Each, ReceiverPart}
use Rattle.parts.proofs.Outcomes.{Grants, sender_after, receiver_after, listener_after, step_of, state_after}
use Rattle.parts.proofs.Outcomes.{Does, alters_nothing, adds_term, adds_name, gives_knowledge, grants_step, call_does}
use Rattle.parts.proofs.Opening.{Open, sender_opening, receiver_opening, knows_open, name_open}
use Rattle.parts.proofs.Reached.{part_end, reached_push, by_cases, AllApart, reached_apart}
use Rattle.parts.proofs.Pieces.{each_on, Sending, sending_on, receiving_on, sender_begins, sender_part, receiver_part}

-- what a list has at a place, it reads there
pub read_at : {A : Type 0} (xs : List A) (n : ℕ) (x d : A) → nth xs n ≡ Some x → get_or xs n d ≡ x
read_at xs n x d e = some_is (sym (nth_at xs n d (nth_below xs n x e)) ∙ e)

-- what a granted step wrote, given the steps before it
pub record StepPlayed (st : State) (earlier : List Step) (x : Step) : Type 0 where
  pub sender_script : Script
  pub sender_has : nth st.scripts x.sender ≡ Some sender_script
  pub receiver_script : Script
  pub receiver_has : nth st.scripts x.receiver ≡ Some receiver_script
  pub different : x.sender ≡ x.receiver → ⊥
  pub message_in : In x.message st.terms
  pub sender_name : Term
  pub sender_is : name_of st x.sender ≡ Some sender_name
  pub receiver_name : Term
  pub receiver_is : name_of st x.receiver ≡ Some receiver_name
  pub sends : Sending sender_script x.message receiver_name (sent_from st earlier x) x.sent
  pub receives : ReceiverPart receiver_script sender_name x.message (received_from st earlier x) x.received

-- a party's initial part, and that all is done when all steps are played
pub record PartyPlayed (st : State) (p : ℕ) (s : Script) : Type 0 where
  pub within : initial st p ≤ length s
  pub starts : Each Starts s 0 (initial st p)
  pub all : reached st.steps (initial st p) p ≡ length s

pub record Played (st : State) : Type 0 where
  pub steps : (l : ℕ) (x : Step) → nth st.steps l ≡ Some x → StepPlayed st (take l st.steps) x
  pub parties : (p : ℕ) (s : Script) → 1 ≤ p → nth st.scripts p ≡ Some s → PartyPlayed st p s

-- an agent with a name is a party
pub above : (st : State) (p : ℕ) (t : Term) → name_of st p ≡ Some t → 1 ≤ p
above st zero t e = absurd (some_none None e refl)
above st (suc p) t e = omega arith

-- where the initial parts stay, what a step wrote stays
module _ (st st' : State) (keeps : Keeps st st') (names : (p : ℕ) (t : Term) → name_of st p ≡ Some t → name_of st' p ≡ Some t)
    (initials : (p : ℕ) (s : Script) → 1 ≤ p → nth st.scripts p ≡ Some s → initial st' p ≡ initial st p) where
  pub step_on : (earlier : List Step) (x : Step) → StepPlayed st earlier x → StepPlayed st' earlier x
  step_on earlier x w =
      let a = keeps.scripts x.sender w.sender_script w.sender_has in
      let b = keeps.scripts x.receiver w.receiver_script w.receiver_has in
      let m = in_nth st.terms x.message w.message_in in
      let ia = initials x.sender w.sender_script (above st x.sender w.sender_name w.sender_is) w.sender_has in
      let ib = initials x.receiver w.receiver_script (above st x.receiver w.receiver_name w.receiver_is) w.receiver_has in
      record {
        sender_script = a.0;
        sender_has = a.1;
        receiver_script = b.0;
        receiver_has = b.1;
        different = w.different;
        message_in = nth_in st'.terms m.0 x.message (keeps.numbers m.0 x.message m.1);
        sender_name = w.sender_name;
        sender_is = names x.sender w.sender_name w.sender_is;
        receiver_name = w.receiver_name;
        receiver_is = names x.receiver w.receiver_name w.receiver_is;
        sends =
            subst (λ n. Sending a.0 x.message w.receiver_name (reached earlier n x.sender) x.sent) (sym ia)
            (sending_on w.sender_script a.0 x.message w.receiver_name (sent_from st earlier x) x.sent a.2 w.sends);
        receives =
            subst (λ n. ReceiverPart b.0 w.sender_name x.message (reached earlier n x.receiver) x.received) (sym ib)
            (receiving_on w.receiver_script b.0 w.sender_name x.message (received_from st earlier x) x.received b.2 w.receives);
      }

-- the same of a party
party_on : (st st' : State) (p : ℕ) (s s' : Script) → Begins s s' → initial st' p ≡ initial st p → reached st'.steps (initial st p) p ≡ length s'
    → PartyPlayed st p s → PartyPlayed st' p s'
party_on st st' p s s' b e r w =
    let h = begins_length s s' b in
    record {
      within = omega (arith, w.within);
      starts = subst (Each Starts s' 0) (sym e) (each_on Starts s s' 0 (initial st p) b w.within w.starts);
      all = ap (λ n. reached st'.steps n p) e ∙ r;
    }

-- a party that takes no part in a step has its initial part only
opening_alone : (st : State) (p : ℕ) (s : Script) → nth st.scripts p ≡ Some s → AllApart st.steps p → PartyPlayed st p s → Open s
opening_alone st p s e h w =
    let i : initial st p ≡ length s = sym (reached_apart st.steps (initial st p) p h) ∙ w.all in
    record {
      each = λ k l f. let b = nth_below s k l f in w.starts k l (omega arith) (omega arith) f;
      whole = ap opening (sym (read_at st.scripts p s [] e)) ∙ i;
    }

party_alone : (st : State) (p : ℕ) (s : Script) → nth st.scripts p ≡ Some s → AllApart st.steps p → Open s → PartyPlayed st p s
party_alone st p s e h v =
    let i : initial st p ≡ length s = ap opening (read_at st.scripts p s [] e) ∙ v.whole in
    record { within = omega arith; starts = λ k l f q x. v.each k l x; all = reached_apart st.steps (initial st p) p h ∙ i }

-- a new party starts with its name
new_open : (k : Kind) (n p : ℕ) (s : Script) → nth (new_scripts k n) p ≡ Some s → Open s
new_open party n zero s e = subst Open (some_is e) (name_open (name party n))
new_open party n (suc p) s e = absurd (some_none None e refl)
new_open number n p s e = absurd (some_none None e refl)
new_open shared n p s e = absurd (some_none None e refl)
new_open public n p s e = absurd (some_none None e refl)
new_open table n p s e = absurd (some_none None e refl)
new_open function n p s e = absurd (some_none None e refl)

module _ (st : State) (v : Played st) where
  -- NAME
  module _ (k : Kind) where
    abbrev named_scripts : List Script
    named_scripts = new_scripts k (length st.terms)

    abbrev after_name : State
    after_name = record { terms = st.terms ++ new_terms k (length st.terms); scripts = st.scripts ++ new_scripts k (length st.terms); steps = st.steps }

    -- the parties that were there
    pub name_initial : (p : ℕ) (s : Script) → 1 ≤ p → nth st.scripts p ≡ Some s → initial after_name p ≡ initial st p
    name_initial p s h e =
        ap opening (get_or_append_left st.scripts named_scripts [] p (nth_below st.scripts p s e))

    -- no step is by a new one
    name_apart : (p : ℕ) → length st.scripts ≤ p → AllApart st.steps p
    name_apart p h l x e =
        let w = v.steps l x e in
        let a = nth_below st.scripts x.sender w.sender_script w.sender_has in
        let b = nth_below st.scripts x.receiver w.receiver_script w.receiver_has in
        ((λ q. omega arith), (λ q. omega arith))

    name_party : (p : ℕ) (s : Script) → 1 ≤ p → nth (st.scripts ++ new_scripts k (length st.terms)) p ≡ Some s → PartyPlayed after_name p s
    name_party p s h e = go (nth_either st.scripts named_scripts p s e)
      where
        go : (nth st.scripts p ≡ Some s) ⊎ ((d : ℕ) × (p ≡ d + length st.scripts) × (nth (new_scripts k (length st.terms)) d ≡ Some s)) → PartyPlayed after_name p s
        go (inl f) =
            let w = v.parties p s h f in party_on st after_name p s s ([], sym (append-nil s)) (name_initial p s h f) w.all w
        go (inr w) =
            let q = w.1 in
            party_alone after_name p s e (name_apart p (omega arith)) (new_open k (length st.terms) w.0 s w.2)

    pub name_played : Keeps st after_name → ((p : ℕ) (t : Term) → name_of st p ≡ Some t → name_of after_name p ≡ Some t) → Played after_name
    name_played keeps names =
        record { steps = λ l x e. step_on st after_name keeps names name_initial (take l st.steps) x (v.steps l x e); parties = name_party }

  -- KNOW
  pub know_played : (p : ℕ) (s : Script) (t : Term) → nth st.scripts p ≡ Some s → st.steps ≡ []
      → Played (record { terms = st.terms; scripts = set st.scripts p (knows s t); steps = st.steps })
  know_played p s t es none = record { steps = λ l x e. absurd (some_none None (ap (λ us. nth us l) (sym none) ∙ e) refl); parties = parties }
    where
      after : State
      after = record { terms = st.terms; scripts = set st.scripts p (knows s t); steps = st.steps }

      apart : (q : ℕ) → AllApart st.steps q
      apart q l x e = absurd (some_none None (ap (λ us. nth us l) (sym none) ∙ e) refl)

      old : (q : ℕ) (x : Script) → 1 ≤ q → nth st.scripts q ≡ Some x → Open x
      old q x h e = opening_alone st q x e (apart q) (v.parties q x h e)

      parties : (q : ℕ) (x : Script) → 1 ≤ q → nth (set st.scripts p (knows s t)) q ≡ Some x → PartyPlayed after q x
      parties q x h e = party_alone after q x e (apart q) (go (nth_set st.scripts p (knows s t) q x e))
        where
          go : ((q ≡ p) × (x ≡ knows s t)) ⊎ ((q ≡ p → ⊥) × (nth st.scripts q ≡ Some x)) → Open x
          go (inl w) = let a = w.0 in subst Open (sym w.1) (knows_open s t (old p s (omega arith) es))
          go (inr w) = old q x h w.1

  -- STEP
  module _ (a b n : ℕ) (g : Grants st a b n) where
    abbrev after : State
    after = state_after g

    abbrev x1 : List Script
    x1 = set st.scripts a (sender_after g)

    abbrev x2 : List Script
    x2 = set x1 b (receiver_after g)

    a1 : 1 ≤ a
    a1 = above st a g.sender_name g.sender_named

    b1 : 1 ≤ b
    b1 = above st b g.receiver_name g.receiver_named

    -- the scripts of sender and receiver
    sender_now : nth (set (set (set st.scripts a (sender_after g)) b (receiver_after g)) 0 (listener_after g)) a ≡ Some (sender_after g)
    sender_now =
        nth_set_other x2 0 (listener_after g) a (sender_after g) (λ e. let h = a1 in omega arith)
        (nth_set_other x1 b (receiver_after g) a (sender_after g) g.different (nth_set_same st.scripts a g.sender_script (sender_after g) g.sender_is))

    receiver_now : nth (set (set (set st.scripts a (sender_after g)) b (receiver_after g)) 0 (listener_after g)) b ≡ Some (receiver_after g)
    receiver_now =
        nth_set_other x2 0 (listener_after g) b (receiver_after g) (λ e. let h = b1 in omega arith)
        (nth_set_same x1 b g.receiver_script (receiver_after g)
        (nth_set_other st.scripts a (sender_after g) b g.receiver_script (λ e. g.different (sym e)) g.receiver_is))

    sender_goes_on : Begins g.sender_script (sender_after g)
    sender_goes_on = sender_begins g.sender_script (fresh_names st g.message) g.message g.receiver_name g.address g.address_found g.composed g.composes

    -- the initial parts stay
    step_opening : (p : ℕ) (s s' : Script) → nth st.scripts p ≡ Some s → nth (set (set (set st.scripts a (sender_after g)) b (receiver_after g)) 0 (listener_after g)) p ≡ Some s'
        → opening s' ≡ opening s → initial (state_after g) p ≡ initial st p
    step_opening p s s' e f o = ap opening (read_at after.scripts p s' [] f) ∙ (o ∙ ap opening (sym (read_at st.scripts p s [] e)))

    pub step_initial : (p : ℕ) → 1 ≤ p → initial (state_after g) p ≡ initial st p
    step_initial p h = go (cases_eq a p) (cases_eq b p)
      where
        go : (a ≡ p) ⊎ (a ≡ p → ⊥) → (b ≡ p) ⊎ (b ≡ p → ⊥) → initial (state_after g) p ≡ initial st p
        go (inl d) q =
            subst (λ n. initial (state_after g) n ≡ initial st n) d
            (step_opening a g.sender_script (sender_after g) g.sender_is sender_now
            (sender_opening g.sender_script (fresh_names st g.message) g.message g.address g.composed g.composes))
        go (inr d) (inl e) =
            subst (λ n. initial (state_after g) n ≡ initial st n) e
            (step_opening b g.receiver_script (receiver_after g) g.receiver_is receiver_now (receiver_opening g.receiver_script g.sender_name g.message))
        go (inr d) (inr e) =
            ap opening (get_or-set_other x2 0 p (listener_after g) [] (λ q. omega arith)
            ∙ (get_or-set_other x1 b p (receiver_after g) [] (λ q. e (sym q)) ∙ get_or-set_other st.scripts a p (sender_after g) [] (λ q. d (sym q))))

    -- how far each party is done
    step_party : (p : ℕ) (s s' : Script) → 1 ≤ p → nth st.scripts p ≡ Some s → Begins s s' → part_end (step_of g) (reached st.steps (initial st p) p) p ≡ length s' → PartyPlayed after p s'
    step_party p s s' h e b r = party_on st after p s s' b (step_initial p h) (reached_push st.steps (step_of g) (initial st p) p ∙ r) (v.parties p s h e)

    sender_party : PartyPlayed after a (sender_after g)
    sender_party =
        step_party a g.sender_script (sender_after g) a1 g.sender_is sender_goes_on
        (by_cases a b (length (sender_after g)) (length (receiver_after g)) (reached st.steps (initial st a) a) (λ m. m ≡ length (sender_after g)) a
        (λ e. refl) (λ d e. absurd (d refl)) (λ d e. absurd (d refl)))

    receiver_party : PartyPlayed after b (receiver_after g)
    receiver_party =
        step_party b g.receiver_script (receiver_after g) b1 g.receiver_is (received_begins g.receiver_script g.sender_name g.message)
        (by_cases a b (length (sender_after g)) (length (receiver_after g)) (reached st.steps (initial st b) b) (λ m. m ≡ length (receiver_after g)) b
        (λ e. absurd (g.different e)) (λ d e. refl) (λ d e. absurd (e refl)))

    other_party : (p : ℕ) (s : Script) → 1 ≤ p → (p ≡ a → ⊥) → (p ≡ b → ⊥) → nth st.scripts p ≡ Some s → PartyPlayed after p s
    other_party p s h pa pb e =
        step_party p s s h e ([], sym (append-nil s))
        (by_cases a b (length (sender_after g)) (length (receiver_after g)) (reached st.steps (initial st p) p) (λ m. m ≡ length s) p
        (λ q. absurd (pa (sym q))) (λ d q. absurd (pb (sym q))) (λ d q. (v.parties p s h e).all))

    parties_after : (p : ℕ) (s : Script) → 1 ≤ p → nth (set (set (set st.scripts a (sender_after g)) b (receiver_after g)) 0 (listener_after g)) p ≡ Some s → PartyPlayed after p s
    parties_after p s h e = last (nth_set x2 0 (listener_after g) p s e)
      where
        agrees : (q : ℕ) (s' : Script) → p ≡ q → s ≡ s' → PartyPlayed after q s' → PartyPlayed after p s
        agrees q s' e f w = subst (λ z. PartyPlayed after z s) (sym e) (subst (PartyPlayed after q) (sym f) w)

        first : (p ≡ b → ⊥) → ((p ≡ a) × (s ≡ sender_after g)) ⊎ ((p ≡ a → ⊥) × (nth st.scripts p ≡ Some s)) → PartyPlayed after p s
        first pb (inl w) = agrees a (sender_after g) w.0 w.1 sender_party
        first pb (inr w) = other_party p s h w.0 pb w.1

        middle : ((p ≡ b) × (s ≡ receiver_after g)) ⊎ ((p ≡ b → ⊥) × (nth x1 p ≡ Some s)) → PartyPlayed after p s
        middle (inl w) = agrees b (receiver_after g) w.0 w.1 receiver_party
        middle (inr w) = first w.0 (nth_set st.scripts a (sender_after g) p s w.1)

        last : ((p ≡ 0) × (s ≡ listener_after g)) ⊎ ((p ≡ 0 → ⊥) × (nth x2 p ≡ Some s)) → PartyPlayed after p s
        last (inl w) = let q = w.0 in absurd (omega arith)
        last (inr w) = middle (nth_set x1 b (receiver_after g) p s w.1)

    -- a part of the step follows what its party had done
    pub next : (p : ℕ) (s : Script) → 1 ≤ p → nth st.scripts p ≡ Some s → length s ≡ reached st.steps (initial after p) p
    next p s h e = sym (v.parties p s h e).all ∙ ap (λ m. reached st.steps m p) (sym (step_initial p h))

    new_step : StepPlayed after st.steps (step_of g)
    new_step =
        record {
          sender_script = sender_after g;
          sender_has = sender_now;
          receiver_script = receiver_after g;
          receiver_has = receiver_now;
          different = g.different;
          message_in = nth_in st.terms n g.message g.message_is;
          sender_name = g.sender_name;
          sender_is = g.sender_named;
          receiver_name = g.receiver_name;
          receiver_is = g.receiver_named;
          sends =
              subst (λ n. Sending (sender_after g) g.message g.receiver_name n (length (sender_after g))) (next a g.sender_script a1 g.sender_is)
              (sender_part g.sender_script (fresh_names st g.message) g.message g.receiver_name g.address g.address_found g.composed g.composes);
          receives =
              subst (λ n. ReceiverPart (receiver_after g) g.sender_name g.message n (length (receiver_after g))) (next b g.receiver_script b1 g.receiver_is)
              (receiver_part g.receiver_script g.sender_name g.message);
        }

    pub step_played : Keeps st (state_after g) → Played (state_after g)
    step_played keeps = record { steps = λ l x e. go l x (nth_either st.steps (step_of g ∷ []) l x e); parties = parties_after }
      where
        last : (l : ℕ) (x : Step) (d : ℕ) → l ≡ d + length st.steps → nth (step_of g ∷ []) d ≡ Some x → StepPlayed after (take l (st.steps ++ (step_of g ∷ []))) x
        last l x zero q e =
            let f : take l (st.steps ++ (step_of g ∷ [])) ≡ st.steps = take-append-le l st.steps (step_of g ∷ []) (omega arith) ∙ take_all l st.steps (omega arith) in
            subst (λ us. StepPlayed after us x) (sym f) (subst (StepPlayed after st.steps) (some_is e) new_step)
        last l x (suc d) q e = absurd (some_none None e refl)

        go : (l : ℕ) (x : Step) → (nth st.steps l ≡ Some x) ⊎ ((d : ℕ) × (l ≡ d + length st.steps) × (nth (step_of g ∷ []) d ≡ Some x))
            → StepPlayed after (take l (st.steps ++ (step_of g ∷ []))) x
        go l x (inl e) =
            let h = nth_below st.steps l x e in
            let f : take l (st.steps ++ (step_of g ∷ [])) ≡ take l st.steps = take-append-le l st.steps (step_of g ∷ []) (omega arith) in
            subst (λ us. StepPlayed after us x) (sym f)
            (step_on st after keeps (λ p t q. q) (λ p s q i. step_initial p q) (take l st.steps) x (v.steps l x e))
        go l x (inr w) = last l x w.0 w.1 w.2

-- every call keeps it
played_after : (st : State) → Played st → {d : Told} {st' : State} → Does st d st' → Keeps st st'
    → ((p : ℕ) (t : Term) → name_of st p ≡ Some t → name_of st' p ≡ Some t) → Played st'
played_after st v (alters_nothing q) keeps names = v
played_after st v {st' = st'} (adds_term t q l) keeps names =
    record {
      steps = λ i x e. step_on st st' keeps names (λ p s h f. refl) (take i st.steps) x (v.steps i x e);
      parties = λ p s h e. let w = v.parties p s h e in record { within = w.within; starts = w.starts; all = w.all };
    }
played_after st v (adds_name k l q) keeps names = name_played st v k keeps names
played_after st v (gives_knowledge p n s t es et q l) keeps names = know_played st v p s t es q
played_after st v (grants_step a b n g) keeps names = step_played st v a b n g keeps

played_blank : Played blank
played_blank = record { steps = λ l x e. absurd (some_none None e refl); parties = parties }
  where
    parties : (p : ℕ) (s : Script) → 1 ≤ p → nth ([] ∷ []) p ≡ Some s → PartyPlayed blank p s
    parties zero s h e = absurd (omega arith)
    parties (suc p) s h e = absurd (some_none None e refl)

-- names stay
names_stay : (past : History) (d : Told) (st st' : State) → Stable past st → Stable (d ∷ past) st' → (p : ℕ) (t : Term) → name_of st p ≡ Some t → name_of st' p ≡ Some t
names_stay past d st st' v v' p t e = v'.numbers.names_to p t (inl (v.numbers.names_from p t e))

pub came_played : (past : History) (st : State) → Came past st → Played st
came_played [] st e = subst Played (sym e) played_blank
came_played (d ∷ past) st' w =
    let st : State = w.0 in
    let c = w.2.0 in
    let d2 : Told = (perform st c).told in
    subst Played w.2.2
    (played_after st (came_played past st w.1) (call_does st c) (calls_only_add_lem st c)
    (names_stay past d2 st (perform st c).state (came_stable past st w.1) (came_stable (d2 ∷ past) (perform st c).state (st, w.1, (c, refl, refl)))))
