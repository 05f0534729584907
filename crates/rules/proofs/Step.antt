-- A step keeps what holds of a state, and it is granted only if the sender can build the message.
use Rattle.std.proofs.Common.{◌≡◌, ℕ, zero, suc, ◌<◌, ◌||◌, ◌⊎◌, ◌↔◌, List, [], ◌∷◌, ◌++◌, length, set, Some, None, Option, sym, refl, ap, ◌∙◌, subst, inl, inr, arith, length-set}
use Rattle.std.proofs.lemmas.Bool.Decides.{Decides-at}
use Rattle.deduction.specs.Term.{Kind, party, number, shared, public, table, function, Term, name, built, mate, Named, In, among}
use Rattle.deduction.specs.Compose.{Composable, Represents}
use Rattle.deduction.proofs.Compose.{held_composable, represents_equivalent, represents_same}
use Rattle.rules.specs.Script.{Op, SEND, Script, line, ◌then◌, held}
use Rattle.rules.specs.Compose.{Composed, compose, missing}
use Rattle.rules.specs.Effects.{freshens, received, overheard}
use Rattle.rules.specs.State.{Step, State, Told, stepped, nth, with, place_of, missing_number, party_of, party_names, name_at, occurs, used_in, used_in_some}
use Rattle.rules.specs.State.{used_in_steps, used, fresh_names}
use Rattle.rules.specs.History.{History, Stands, NameOf, FreshIn, StepGives, Given, CanSend}
use Rattle.rules.specs.Grows.{Holds, Grows, adds, Builds, Fits, sending, Proper}
use Rattle.rules.specs.Theorems.{Leaf, MissingFrom}
use Rattle.rules.specs.Invariant.{Agent, Stable}
use Rattle.rules.proofs.Find.{some_none, held_append, holds_held}
use Rattle.rules.proofs.Grows.{grows_join, grows_map, grows_holds, grows_composable, grows_derived, builds_fit, builds_composable}
use Rattle.rules.proofs.Grows.{builds_keep_saturated, closed_within, fits_map}
use Rattle.rules.proofs.Compose.{Makes, composed_makes, composed_none, MissingRight, missing_right}
use Rattle.rules.proofs.Parts.{parts_closed}
use Rattle.rules.proofs.Saturate.{Nothing}
use Rattle.rules.proofs.Walk.{held_none}
use Rattle.rules.proofs.Effects.{Received, received_right, Overheard, overheard_right}
use Rattle.rules.proofs.Nth.{name_above, some_is, nth_in, nth_below, nth_set, nth_set_other, place_is, place_none}
use Rattle.rules.proofs.Numbers.{numbered_same}
use Rattle.rules.proofs.Built.{stands_one}
use Rattle.rules.proofs.Used.{name_party, Quiet, or_assoc, grows_used, used_set_same, used_steps_more}
use Rattle.rules.proofs.Invariant.{written_held, agent_same, agent_grows}
use Rattle.rules.proofs.Learn.{used_shown}
use Rattle.rules.proofs.Fresh.{sender_represents, sender_grows}

party_names_in : (ts : List Term) (t : Term) → In t (party_names ts) → In t ts
party_names_in [] t h = h
party_names_in (name k i ∷ ts) t h = go k (party_names_in ts t) h
  where
    go : (j : Kind) → (In t (party_names ts) → In t ts) → In t (party_of j (name j i) (party_names ts)) → In t (name j i ∷ ts)
    go party rest (inl e) = inl e
    go party rest (inr x) = inr (rest x)
    go number rest x = inr (rest x)
    go shared rest x = inr (rest x)
    go public rest x = inr (rest x)
    go table rest x = inr (rest x)
    go function rest x = inr (rest x)
party_names_in (built f a b ∷ ts) t h = inr (party_names_in ts t h)
party_names_in (mate k ∷ ts) t h = inr (party_names_in ts t h)

name_in : (ts : List Term) (p : ℕ) (t : Term) → name_at ts p ≡ Some t → In t ts
name_in ts zero t e = absurd (some_none None e refl)
name_in ts (suc p) t e = party_names_in ts t (nth_in (party_names ts) p t e)

-- what the sender can build
module _ (past : History) (st : State) (v : Stable past st) (a n : ℕ) (sa : Script) (m : Term)
    (ea : nth st.scripts a ≡ Some sa) (em : nth st.terms n ≡ Some m) where
  abbrev s1 : Script
  s1 = freshens sa (fresh_names st m)

  abbrev E : Term → Type 0
  E u = Given past a u ⊎ FreshIn past m u

  message_in : In m st.terms
  message_in = nth_in st.terms n m em

  can_send : Composable (held (freshens sa (fresh_names st m))) m ↔ CanSend past a m
  can_send =
      represents_equivalent (among (held s1)) (λ u. Given past a u ⊎ FreshIn past m u) (sender_represents past st v m message_in a sa ea) m
      (v.numbers.formed m message_in)

  -- a message that cannot be composed cannot be built
  pub unmakeable : compose (freshens sa (fresh_names st m)) m ≡ None → CanSend past a m → ⊥
  unmakeable e w = composed_none s1 m e (can_send.1 w)

  -- the missing term is a name or a mate in the message that the sender cannot build
  pub missing_named : compose (freshens sa (fresh_names st m)) m ≡ None
      → MissingFrom past a (missing_number st (missing (freshens sa (fresh_names st m)) m)) m
  missing_named e = go (missing s1 m) (missing_right s1 m)
    where
      place : (u : Term) → In u st.terms → (p : Option ℕ) → place_of st.terms u ≡ p → Stands past (with p 0 (λ k. k)) u
      place u h None q = absurd (place_none st.terms u q h)
      place u h (Some k) q = v.numbers.stands_from k u (place_is st.terms u k q)

      leaf_held : (u : Term) → Leaf u → Composable (held (freshens sa (fresh_names st m))) u → In u (held (freshens sa (fresh_names st m)))
      leaf_held (name k i) y x = x
      leaf_held (built f x y) z w = absurd z
      leaf_held (mate k) y x = x

      go : (o : Option Term) → MissingRight (freshens sa (fresh_names st m)) m o → MissingFrom past a (missing_number st o) m
      go None c = absurd (composed_none (freshens sa (fresh_names st m)) m e c)
      go (Some u) w =
          let h = parts_closed (λ t. In t st.terms) v.numbers.closed m message_in u w.3 in (
            u,
            place u h (place_of st.terms u) refl,
            w.1,
            w.3,
            λ x. w.2 (leaf_held u w.1 ((represents_equivalent (among (held s1)) E (sender_represents past st v m message_in a sa ea) u (v.numbers.formed u h)).1 x)),
          )

  module _ (c : Composed) (ec : compose (freshens sa (fresh_names st m)) m ≡ Some c) where
    abbrev P : Term → Type 0
    P t = In t st.terms

    made : Makes P s1 m c
    made = composed_makes P s1 m (closed_within P v.numbers.closed m message_in) c ec

    -- a message that was composed can be built
    pub makeable : CanSend past a m
    makeable =
        can_send.0 (builds_composable P made.grows m (held_composable (among (held c.script)) m (holds_held c.script c.slot m made.holds)))

    composed_represents : Represents (among (held c.script)) (λ u. Given past a u ⊎ FreshIn past m u)
    composed_represents =
        let r = sender_represents past st v m message_in a sa ea in
        record {
          covers = λ t g. grows_composable (Builds P) made.grows t (r.covers t g);
          sound = grows_derived P Nothing v.numbers.formed E (λ op t g. absurd g) (builds_fit P Nothing made.grows) r.sound;
          saturated = builds_keep_saturated P made.grows r.saturated;
        }

    module _ (address : ℕ) (to : Term) (at : Holds sa address to) where
      abbrev after : Script
      after = c.script then line (SEND c.slot address) None

      abbrev Quietly : Op → Term → Type 0
      Quietly op t = Proper op t × Quiet op

      sender_wrote : Grows (Fits P Quietly) sa after
      sender_wrote =
          let g = sender_grows past st v m message_in a sa ea Quietly (λ k i f. (f, tt)) (λ k i. ((i, refl), tt)) in
          let h = grows_join (Fits P Quietly) g (builds_fit P Quietly made.grows) in
          adds h (sending made.holds (grows_holds (Fits P Quietly) h address to at))

      sent_represents : Represents (among (held after)) (λ u. Given past a u ⊎ FreshIn past m u)
      sent_represents =
          represents_same (among (held c.script)) (among (held after)) E E
          (λ t. (held_append c.script (line (SEND c.slot address) None ∷ []) t, held_none c.script (SEND c.slot address) t))
          (λ t. ((λ x. x), (λ x. x))) composed_represents

      pub sender_unused : (k : Kind) (i : ℕ) → used_in k i after ≡ used_in k i sa
      sender_unused k i = grows_used k i P Quietly (λ op t q. q.1) sender_wrote

      pub sender_agent : (b l : ℕ) → (a ≡ b → ⊥) → (a ≡ 0 → ⊥) → Agent (stepped a b n l ∷ past) st.terms a after
      sender_agent b l ab a0 =
          record {
            represents =
                represents_same (among (held after)) (among (held after)) E (Given (stepped a b n l ∷ past) a) (λ t. ((λ x. x), (λ x. x))) same sent_represents;
            written =
                grows_join (Fits P Proper) (v.agent a sa ea).written
                (grows_map (Fits P Quietly) (Fits P Proper) (fits_map P P Quietly Proper (λ t x. x) (λ op t x. x.0)) sender_wrote);
          }
        where
          into : (u : Term) → Given past a u ⊎ FreshIn past m u → Given (stepped a b n l ∷ past) a u
          into u (inl g) = inl g
          into u (inr w) = inr (inr (inl (refl, (m, v.numbers.stands_from n m em, w))))

          back : (u : Term) → Given (stepped a b n l ∷ past) a u → Given past a u ⊎ FreshIn past m u
          back u (inl g) = inl g
          back u (inr (inl w)) = absurd (ab w.0)
          back u (inr (inr (inl w))) =
              inr (subst (λ x. FreshIn past x u) (stands_one past st.terms v.numbers n m w.1.0 em w.1.1) w.1.2)
          back u (inr (inr (inr w))) = absurd (a0 w.0)

          same : (u : Term) → (Given past a u ⊎ FreshIn past m u) ↔ Given (stepped a b n l ∷ past) a u
          same u = (into u, back u)

-- the whole step
module _ (past : History) (st : State) (v : Stable past st) (a b n l : ℕ) (sa sb sl : Script) (m na nb : Term)
    (ea : nth st.scripts a ≡ Some sa) (eb : nth st.scripts b ≡ Some sb) (el : nth st.scripts 0 ≡ Some sl) (em : nth st.terms n ≡ Some m)
    (ab : a ≡ b → ⊥) (ena : name_at st.terms a ≡ Some na) (enb : name_at st.terms b ≡ Some nb) where
  abbrev d : Told
  d = stepped a b n l

  abbrev T : Term → Type 0
  T t = In t st.terms

  a0 : a ≡ 0 → ⊥
  a0 = name_above st.terms a na ena

  b0 : b ≡ 0 → ⊥
  b0 = name_above st.terms b nb enb

  here : Stands past n m
  here = v.numbers.stands_from n m em

  is_message : (u : Term) → Stands past n u → u ≡ m
  is_message u = stands_one past st.terms v.numbers n m u em

  is_name : (p : ℕ) (t u : Term) → name_at st.terms p ≡ Some t → NameOf past p u → u ≡ t
  is_name p t u e w = some_is (sym (v.numbers.names_to p u w) ∙ e)

  is_party_lem : (p : ℕ) (t : Term) → name_at st.terms p ≡ Some t → Named party t
  is_party_lem p t e = let w = name_party past p t (v.numbers.names_from p t e) in subst (Named party) (sym w.1) refl

  -- what an instruction brings that is not GIVEN
  abbrev Q : ℕ → Op → Term → Type 0
  Q p op t = Proper op t × Quiet op × StepGives past a b n p t

  all : (p : ℕ) (s : Script) → nth st.scripts p ≡ Some s → (t : Term) → In t (held s) → In t st.terms
  all p s e = written_held st.terms s (v.agent p s e).written

  abbrev sb' : Script
  sb' = received sb na m

  abbrev sl' : Script
  sl' = overheard sl na nb m

  receiver : Received T v.numbers.closed (Q b) sb na m sb'
  receiver = received_right T v.numbers.closed (Q b) sb na m (all b sb eb) (name_in st.terms a na ena) (nth_in st.terms n m em)
      (is_party_lem a na ena, tt, inl (refl, inr (v.numbers.names_from a na ena))) (tt, tt, inl (refl, inl here))

  listener : Overheard T v.numbers.closed (Q 0) sl na nb m sl'
  listener =
      overheard_right T v.numbers.closed (Q 0) sl na nb m (all 0 sl el) (name_in st.terms a na ena) (name_in st.terms b nb enb) (nth_in st.terms n m em)
      (is_party_lem a na ena, tt, inr (inr (refl, inr (inl (v.numbers.names_from a na ena)))))
      (is_party_lem b nb enb, tt, inr (inr (refl, inr (inr (v.numbers.names_from b nb enb)))))
      (tt, tt, inr (inr (refl, inl here)))

  receiver_agent : Agent (d ∷ past) st.terms b sb'
  receiver_agent =
      agent_grows past d st.terms v.numbers.formed b sb sb' (v.agent b sb eb) (Q b) (λ op t g. g.0) (λ op t g. g.2) receiver.grows makes receiver.saturated
    where
      makes : (u : Term) → StepGives past a b n b u → Composable (held sb') u
      makes u (inl w) = pick w.1
        where
          pick : Stands past n u ⊎ NameOf past a u → Composable (held sb') u
          pick (inl s) = subst (Composable (held sb')) (sym (is_message u s)) receiver.message_made
          pick (inr x) = subst (Composable (held sb')) (sym (is_name a na u ena x)) receiver.who_made
      makes u (inr (inl w)) = absurd (ab (sym w.0))
      makes u (inr (inr w)) = absurd (b0 w.0)

  listener_agent : Agent (d ∷ past) st.terms 0 sl'
  listener_agent =
      agent_grows past d st.terms v.numbers.formed 0 sl sl' (v.agent 0 sl el) (Q 0) (λ op t g. g.0) (λ op t g. g.2) listener.grows makes listener.saturated
    where
      makes : (u : Term) → StepGives past a b n 0 u → Composable (held sl') u
      makes u (inl w) = absurd (b0 (sym w.0))
      makes u (inr (inl w)) = absurd (a0 (sym w.0))
      makes u (inr (inr w)) = pick w.1
        where
          pick : Stands past n u ⊎ (NameOf past a u ⊎ NameOf past b u) → Composable (held sl') u
          pick (inl s) = subst (Composable (held sl')) (sym (is_message u s)) listener.message_made
          pick (inr (inl x)) = subst (Composable (held sl')) (sym (is_name a na u ena x)) listener.from_made
          pick (inr (inr x)) = subst (Composable (held sl')) (sym (is_name b nb u enb x)) listener.to_made

  module _ (sa' : Script) (sender : Agent (d ∷ past) st.terms a sa') (unused : (k : Kind) (i : ℕ) → used_in k i sa' ≡ used_in k i sa)
      (step : Step) (told : step.message ≡ m) where
    abbrev x1 : List Script
    x1 = set st.scripts a sa'

    abbrev x2 : List Script
    x2 = set x1 b sb'

    abbrev x3 : List Script
    x3 = set x2 0 sl'

    long : length x3 ≡ length st.scripts
    long = length-set x2 0 sl' ∙ (length-set x1 b sb' ∙ length-set st.scripts a sa')

    step_used : (k : Kind) (i : ℕ) → (used_in_some k i x3 || used_in_steps k i (st.steps ++ (step ∷ []))) ≡ (used st k i || occurs k i m)
    step_used k i =
        let l1 = used_set_same k i st.scripts a sa sa' ea (unused k i) in
        let e2 = nth_set_other st.scripts a sa' b sb (λ e. ab (sym e)) eb in
        let l2 = used_set_same k i x1 b sb sb' e2 (grows_used k i T (Q b) (λ op t g. g.1) receiver.grows) in
        let e3 = nth_set_other x1 b sb' 0 sl (λ e. b0 (sym e)) (nth_set_other st.scripts a sa' 0 sl (λ e. a0 (sym e)) el) in
        let l3 = used_set_same k i x2 0 sl sl' e3 (grows_used k i T (Q 0) (λ op t g. g.1) listener.grows) in
        ap (λ y. y || used_in_steps k i (st.steps ++ (step ∷ []))) (l3 ∙ (l2 ∙ l1))
        ∙ (ap (λ y. used_in_some k i st.scripts || y) (used_steps_more k i st.steps step ∙ ap (λ y. used_in_steps k i st.steps || occurs k i y) told)
        ∙ sym (or_assoc (used_in_some k i st.scripts) (used_in_steps k i st.steps) (occurs k i m)))

    pub stable_stepped : Stable (stepped a b n l ∷ past)
        (record {
          terms = st.terms;
          scripts = set (set (set st.scripts a sa') b (received sb na m)) 0 (overheard sl na nb m);
          steps = st.steps ++ (step ∷ []);
        })
    stable_stepped =
        record {
          numbers = numbered_same past st.terms v.numbers d (λ k u w. absurd w) (λ p u o. o) refl;
          count = (let c = v.count in let e = long in omega arith);
          agent = λ p s e. last p s (nth_set x2 0 sl' p s e);
          given_known = givens;
          used_right =
              λ k i f. Decides-at (used_in_some k i x3 || used_in_steps k i (st.steps ++ (step ∷ []))) (used st k i || occurs k i m) (step_used k i)
              (used_shown past d m here is_message k i (used st k i) (v.used_right k i f));
        }
      where
        agrees : (p : ℕ) (s s' : Script) (q : ℕ) → p ≡ q → s ≡ s' → Agent (d ∷ past) st.terms q s' → Agent (d ∷ past) st.terms p s
        agrees p s s' q e f w = subst (λ x. Agent (d ∷ past) st.terms x s) (sym e) (subst (Agent (d ∷ past) st.terms q) (sym f) w)

        first : (p : ℕ) (s : Script) → (p ≡ 0 → ⊥) → (p ≡ b → ⊥) → ((p ≡ a) × (s ≡ sa')) ⊎ ((p ≡ a → ⊥) × (nth st.scripts p ≡ Some s))
            → Agent (d ∷ past) st.terms p s
        first p s p0 pb (inl w) = agrees p s sa' a w.0 w.1 sender
        first p s p0 pb (inr w) = agent_same past d p s nothing st.terms (v.agent p s w.1)
          where
            nothing : (u : Term) → StepGives past a b n p u → ⊥
            nothing u (inl g) = pb g.0
            nothing u (inr (inl g)) = w.0 g.0
            nothing u (inr (inr g)) = p0 g.0

        middle : (p : ℕ) (s : Script) → (p ≡ 0 → ⊥) → ((p ≡ b) × (s ≡ sb')) ⊎ ((p ≡ b → ⊥) × (nth x1 p ≡ Some s)) → Agent (d ∷ past) st.terms p s
        middle p s p0 (inl w) = agrees p s sb' b w.0 w.1 receiver_agent
        middle p s p0 (inr w) = first p s p0 w.0 (nth_set st.scripts a sa' p s w.1)

        last : (p : ℕ) (s : Script) → ((p ≡ 0) × (s ≡ sl')) ⊎ ((p ≡ 0 → ⊥) × (nth x2 p ≡ Some s)) → Agent (d ∷ past) st.terms p s
        last p s (inl w) = agrees p s sl' 0 w.0 w.1 listener_agent
        last p s (inr w) = middle p s w.0 (nth_set x1 b sb' p s w.1)

        below : (p q : ℕ) (s : Script) → p ≡ q → nth st.scripts q ≡ Some s → p < length x3
        below p q s e f = let x = nth_below st.scripts q s f in let y = long in omega arith

        givens : (p : ℕ) (u : Term) → Given (d ∷ past) p u → p < length x3
        givens p u (inl g) = let x = v.given_known p u g in let y = long in omega arith
        givens p u (inr (inl g)) = below p b sb g.0 eb
        givens p u (inr (inr (inl g))) = below p a sa g.0 ea
        givens p u (inr (inr (inr g))) = below p 0 sl g.0 el
