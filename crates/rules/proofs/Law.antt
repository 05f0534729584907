-- Every call keeps what holds of a state, and answers right; so it holds after every history.
use Rattle.std.proofs.Common.{◌≡◌, ℕ, ◌+◌, Bool, true, false, cond, eqb, ltb, [], ◌∷◌, length, get_or, Some, None, Decides, Option, sym, refl, ap, ◌∙◌, subst, arith}
use Rattle.std.proofs.lemmas.Bool.Decides.{Decides-like}
use Rattle.std.proofs.lemmas.Bool.{eqb-false, and_parts}
use Rattle.deduction.specs.Term.{Kind, party, number, shared, public, table, function, Form, pair, sealed, digest, entry, Term, name, built, mate}
use Rattle.deduction.specs.Term.{Key, mate_of, Named, PartsFit, In, among}
use Rattle.deduction.proofs.Compose.{represents_equivalent}
use Rattle.rules.specs.Script.{SEND, Script, line, ◌then◌, held, find}
use Rattle.rules.specs.Compose.{Composed, compose, composes, missing}
use Rattle.rules.specs.Effects.{knows, freshens, sends, received, overheard}
use Rattle.rules.specs.State.{State, Call, NAME, BUILD, KNOW, STEP, CAN, Refusal, Unknown, WrongKind, NoRoom, EighthParty, TooLate, NoTwoParties}
use Rattle.rules.specs.State.{LastStep, NoAddress, Unmakeable, ScriptFull, formed, mated, asked, refused, Outcome, refuses, nth, with, place_of}
use Rattle.deduction.specs.Decide.{is_key, is_named, parts_fit}
use Rattle.rules.specs.State.{kind_of, form_of, name_of, fresh_names, new_terms, new_scripts, placed, too_long, has_no_steps}
use Rattle.rules.specs.State.{stepped_to, missing_number, step_tests, perform}
use Rattle.rules.specs.History.{History, Stands, CanBuild, CanSend, Given, RefusedStep, RefusedRight, AnsweredRight, AnswersAreRight}
use Rattle.rules.specs.History.{NumbersStand}
use Rattle.rules.specs.Theorems.{MissingFrom, MissingBy, MissingTold, MissingIsNamed}
use Rattle.rules.specs.Invariant.{Stable, StatesAreStable}
use Rattle.rules.proofs.Find.{find_holds}
use Rattle.rules.proofs.Compose.{composes_decides}
use Rattle.rules.proofs.Nth.{name_above, nth_in, nth_first, with_both, place_is, place_none}
use Rattle.rules.proofs.Numbers.{numbered_same}
use Rattle.rules.proofs.Built.{stands_one, formed_numbered, mated_numbered}
use Rattle.rules.proofs.Used.{kind_decides}
use Rattle.rules.proofs.Invariant.{stable_blank, stable_same, stable_adds, stable_named}
use Rattle.rules.proofs.Learn.{stable_knows}
use Rattle.rules.proofs.Step.{unmakeable, makeable, missing_named, sender_agent, sender_unused, stable_stepped}

-- the tests on parts

is_key_lem : (t : Term) → is_key t ≡ true → Key t
is_key_lem (name party i) e = let z : ◌≡◌ {A = ℕ} 0 1 = cc in absurd (omega arith)
is_key_lem (name number i) e = let z : ◌≡◌ {A = ℕ} 0 1 = cc in absurd (omega arith)
is_key_lem (name shared i) e = tt
is_key_lem (name public i) e = tt
is_key_lem (name table i) e = let z : ◌≡◌ {A = ℕ} 0 1 = cc in absurd (omega arith)
is_key_lem (name function i) e = let z : ◌≡◌ {A = ℕ} 0 1 = cc in absurd (omega arith)
is_key_lem (built pair a b) e = let z : ◌≡◌ {A = ℕ} 0 1 = cc in absurd (omega arith)
is_key_lem (built sealed a b) e = let z : ◌≡◌ {A = ℕ} 0 1 = cc in absurd (omega arith)
is_key_lem (built digest a b) e = let z : ◌≡◌ {A = ℕ} 0 1 = cc in absurd (omega arith)
is_key_lem (built entry a b) e = tt
is_key_lem (mate k) e = tt

is_named_lem : (k : Kind) (t : Term) → is_named k t ≡ true → Named k t
is_named_lem k (name j i) e = (kind_decides j k).0 e
is_named_lem k (built f a b) e = let z : ◌≡◌ {A = ℕ} 0 1 = cc in absurd (omega arith)
is_named_lem k (mate t) e = let z : ◌≡◌ {A = ℕ} 0 1 = cc in absurd (omega arith)

parts_fit_lem : (f : Form) (a b : Term) → parts_fit f a b ≡ true → PartsFit f a b
parts_fit_lem pair a b e = tt
parts_fit_lem sealed a b e = is_key_lem b e
parts_fit_lem digest a b e = is_named_lem function a e
parts_fit_lem entry a b e = let w = and_parts (is_named table a) (is_named party b) e in (is_named_lem table a w.0, is_named_lem party b w.1)

-- the outcome keeps what holds, and its answer is right
record Good (past : History) (o : Outcome) : Type 0 where
  stable : Stable (o.told ∷ past) o.state
  right : AnsweredRight past o.told
  missed : MissingTold past o.told

cond_good : (past : History) (b : Bool) (x y : Outcome) → (b ≡ true → Good past x) → (b ≡ false → Good past y) → Good past (cond b x y)
cond_good past true x y t f = t refl
cond_good past false x y t f = f refl

module _ (past : History) (st : State) (v : Stable past st) where
  refuse : (c : Call) (r : Refusal) → RefusedRight past c r → MissingBy past c r → Good past (refuses st c r)
  refuse c r q miss =
      record {
        stable =
            stable_same past st v (refused c r)
            (numbered_same past st.terms v.numbers (refused c r) (λ n t a. absurd a) (λ p t o. o) refl) refl (λ p t g. g) (λ t g. g);
        right = q;
        missed = miss;
      }

  -- NAME
  name_good : (c : ℕ) → Good past (perform st (NAME c))
  name_good c =
      with_both (kind_of c) _ _ (Good past) (λ e. refuse (NAME c) Unknown tt tt)
      (λ k e. cond_good past (ltb 512 (length st.terms + length (new_terms k (length st.terms)))) _ _
      (λ l. refuse (NAME c) NoRoom tt tt)
      (λ l. cond_good past (ltb 8 (length st.scripts + length (new_scripts k (length st.terms)))) _ _
      (λ q. refuse (NAME c) EighthParty tt tt)
      (λ q. record { stable = stable_named past st v k; right = tt; missed = tt })))

  -- BUILD: a form
  formed_good : (c : Call) (f : Form) (a b : ℕ) (x y : Term) → ((r : Refusal) → RefusedRight past c r) → nth st.terms a ≡ Some x
      → nth st.terms b ≡ Some y → PartsFit f x y
      → (o : Option ℕ) → place_of st.terms (built f x y) ≡ o → Good past (placed st c (built f x y) (formed f a b) o)
  formed_good c f a b x y any ea eb fit (Some n) e =
      record {
        stable =
            stable_same past st v (formed f a b n) (numbered_same past st.terms v.numbers (formed f a b n) old (λ p t o. o) refl) refl (λ p t g. g) (λ t g. g);
        right = tt;
        missed = tt;
      }
    where
      one : (n : ℕ) (t u : Term) → nth st.terms n ≡ Some t → Stands past n u → u ≡ t
      one = stands_one past st.terms v.numbers

      old : (k : ℕ) (t : Term) → (k ≡ n) × ((p : Term) × (q : Term) × Stands past a p × Stands past b q × (t ≡ built f p q))
          → nth st.terms k ≡ Some t
      old k t w =
          ap (nth st.terms) w.0 ∙ (place_is st.terms (built f x y) n e
          ∙ ap Some (sym (w.1.4 ∙ (ap (λ z. built f z w.1.1) (one a x w.1.0 ea w.1.2) ∙ ap (built f x) (one b y w.1.1 eb w.1.3)))))
  formed_good c f a b x y any ea eb fit None e =
      cond_good past (ltb (length st.terms) 512) _ _
      (λ l. record {
        stable = stable_adds past st v (formed f a b (length st.terms)) (built f x y ∷ [])
            (formed_numbered past st.terms v.numbers f a b x y ea eb fit (place_none st.terms (built f x y) e)) refl (λ p t g. g) (λ t g. g);
        right = tt;
        missed = tt;
      })
      (λ l. refuse c NoRoom (any NoRoom) tt)

  -- BUILD: a mate
  mated_good : (c : Call) (a : ℕ) (x : Term) → ((r : Refusal) → RefusedRight past c r) → nth st.terms a ≡ Some x → Key x
      → (o : Option ℕ) → place_of st.terms (mate_of x) ≡ o → Good past (placed st c (mate_of x) (mated a) o)
  mated_good c a x any ea key (Some n) e =
      record {
        stable =
            stable_same past st v (mated a n) (numbered_same past st.terms v.numbers (mated a n) old (λ p t o. o) refl) refl (λ p t g. g) (λ t g. g);
        right = tt;
        missed = tt;
      }
    where
      old : (k : ℕ) (t : Term) → (k ≡ n) × ((p : Term) × Stands past a p × (t ≡ mate_of p)) → nth st.terms k ≡ Some t
      old k t w =
          ap (nth st.terms) w.0 ∙ (place_is st.terms (mate_of x) n e
          ∙ ap Some (sym (w.1.2 ∙ ap mate_of (stands_one past st.terms v.numbers a x w.1.0 ea w.1.1))))
  mated_good c a (name k i) any ea key None e = absurd (known k key ea (place_none st.terms (mate_of (name k i)) e))
    where
      known : (j : Kind) → Key (name j i) → nth st.terms a ≡ Some (name j i) → (In (mate_of (name j i)) st.terms → ⊥) → ⊥
      known party y f new = y
      known number y f new = y
      known shared y f new = new (nth_in st.terms a (name shared i) f)
      known public y f new = new (v.numbers.with_mates i (nth_in st.terms a (name public i) f))
      known table y f new = y
      known function y f new = y
  mated_good c a (built f x y) any ea key None e =
      cond_good past (ltb (length st.terms) 512) _ _
      (λ l. record {
        stable = stable_adds past st v (mated a (length st.terms)) (mate (built f x y) ∷ [])
            (mated_numbered past st.terms v.numbers a f x y ea key (place_none st.terms (mate (built f x y)) e)) refl (λ p t g. g) (λ t g. g);
        right = tt;
        missed = tt;
      })
      (λ l. refuse c NoRoom (any NoRoom) tt)
  mated_good c a (mate k) any ea key None e =
      absurd (place_none st.terms k e (v.numbers.closed.keys k (nth_in st.terms a (mate k) ea)))

  build_good : (f a b : ℕ) → Good past (perform st (BUILD f a b))
  build_good f a b =
      cond_good past (eqb f 4) _ _
      (λ q. with_both (nth st.terms a) _ _ (Good past) (λ e. refuse c Unknown tt tt)
      (λ x ea. cond_good past (is_key x) _ _ (λ y. mated_good c a x (λ r. tt) ea (is_key_lem x y) (place_of st.terms (mate_of x)) refl) (λ y. refuse c WrongKind tt tt)))
      (λ q. with_both (form_of f) _ _ (Good past)
      (λ e. refuse c Unknown tt tt)
      (λ form ef. with_both (nth st.terms a) _ _ (Good past)
      (λ e. refuse c Unknown tt tt)
      (λ x ea. with_both (nth st.terms b) _ _ (Good past)
      (λ e. refuse c Unknown tt tt)
      (λ y eb. cond_good past (parts_fit form x y) _ _
      (λ p. formed_good c form a b x y (λ r. tt) ea eb (parts_fit_lem form x y p) (place_of st.terms (built form x y)) refl)
      (λ p. refuse c WrongKind tt tt)))))
    where
      c : Call
      c = BUILD f a b

  -- KNOW
  know_good : (p n : ℕ) → Good past (perform st (KNOW p n))
  know_good p n =
      with_both (nth st.scripts p) _ _ (Good past)
      (λ e. refuse (KNOW p n) Unknown tt tt)
      (λ s es. with_both (nth st.terms n) _ _ (Good past)
      (λ e. refuse (KNOW p n) Unknown tt tt)
      (λ t et. cond_good past (has_no_steps st.steps) _ _
      (λ q. cond_good past (too_long (knows s t)) _ _
      (λ l. refuse (KNOW p n) (ScriptFull p) tt tt)
      (λ l. record { stable = stable_knows past st v p n s t es et; right = tt; missed = tt }))
      (λ q. refuse (KNOW p n) TooLate tt tt)))

  -- CAN
  can_good : (p n : ℕ) → Good past (perform st (CAN p n))
  can_good p n =
      with_both (nth st.scripts p) _ _ (Good past)
      (λ e. refuse (CAN p n) Unknown tt tt)
      (λ s es. with_both (nth st.terms n) _ _ (Good past)
      (λ e. refuse (CAN p n) Unknown tt tt)
      (λ t et. record {
        stable = stable_same past st v (asked p n (composes s t))
            (numbered_same past st.terms v.numbers (asked p n (composes s t)) (λ k u a. absurd a) (λ q u o. o) refl) refl (λ q u g. g) (λ u g. g);
        right = λ u su.
            let r = represents_equivalent (among (held s)) (Given past p) (v.agent p s es).represents t (v.numbers.formed t (nth_in st.terms n t et)) in
            subst (λ y. Decides (composes s t) (CanBuild past p y)) (sym (stands_one past st.terms v.numbers n t u et su))
            (Decides-like (composes s t) r.0 r.1 (composes_decides s t));
        missed = tt;
      }))

  -- STEP
  module _ (a b n : ℕ) where
    pass : (r : Refusal) → ((t : Term) → RefusedStep past a t r) → MissingBy past (STEP a b n) r → Good past (refuses st (STEP a b n) r)
    pass r q miss = refuse (STEP a b n) r (λ t s. q t) miss

    module _ (sa sb : Script) (m na nb : Term) (ea : nth st.scripts a ≡ Some sa) (eb : nth st.scripts b ≡ Some sb) (em : nth st.terms n ≡ Some m)
        (ab : a ≡ b → ⊥) (ena : name_of st a ≡ Some na) (enb : name_of st b ≡ Some nb) (address : ℕ) (at : find sa nb ≡ Some address) where
      abbrev sl : Script
      sl = get_or st.scripts 0 []

      el : nth st.scripts 0 ≡ Some (get_or st.scripts 0 [])
      el = nth_first st.scripts [] (let e = v.count in omega arith)

      only : (t : Term) → Stands past n t → t ≡ m
      only t s = stands_one past st.terms v.numbers n m t em s

      delivered : (o : Option Composed) → compose (freshens sa (fresh_names st m)) m ≡ o
          → Good past (with (sends address o) (refuses st (STEP a b n) (Unmakeable (missing_number st (missing (freshens sa (fresh_names st m)) m))))
          (λ sa'. stepped_to st a b n m sa' (received sb na m) (overheard (get_or st.scripts 0 []) na nb m)))
      delivered None e =
          refuse (STEP a b n) (Unmakeable (missing_number st (missing (freshens sa (fresh_names st m)) m)))
          (λ t s w. unmakeable past st v a n sa m ea em e (subst (CanSend past a) (only t s) w))
          (λ t s. subst (MissingFrom past a (missing_number st (missing (freshens sa (fresh_names st m)) m))) (sym (only t s)) (missing_named past st v a n sa m ea em e))
      delivered (Some x) e =
          cond_good past (too_long sa') _ _ (λ l. full a)
          (λ l. cond_good past (too_long (received sb na m)) _ _ (λ l2. full b)
          (λ l2. cond_good past (too_long (overheard (get_or st.scripts 0 []) na nb m)) _ _ (λ l3. full 0)
          (λ l3. record {
            stable = stable_stepped past st v a b n (length st.steps) sa sb sl m na nb ea eb el em ab ena enb sa'
                (sender_agent past st v a n sa m ea em x e address nb (find_holds sa nb address at) b (length st.steps) ab (name_above st.terms a na ena))
                (sender_unused past st v a n sa m ea em x e address nb (find_holds sa nb address at))
                (record {
                  sender = a;
                  receiver = b;
                  message = m;
                  sent = length sa';
                  received = length (received sb na m);
                  heard = length (overheard sl na nb m);
                })
                refl;
            right = can;
            missed = tt;
          })))
        where
          sa' : Script
          sa' = x.script then line (SEND x.slot address) None

          can : (t : Term) → Stands past n t → CanSend past a t
          can t s = subst (CanSend past a) (sym (only t s)) (makeable past st v a n sa m ea em x e)

          full : (p : ℕ) → Good past (refuses st (STEP a b n) (ScriptFull p))
          full p = refuse (STEP a b n) (ScriptFull p) can tt

    step_good : Good past (perform st (STEP a b n))
    step_good =
        with_both (nth st.scripts a) _ _ (Good past)
        (λ e. pass Unknown (λ t. tt) tt)
        (λ sa ea. with_both (nth st.scripts b) _ _ (Good past)
        (λ e. pass Unknown (λ t. tt) tt)
        (λ sb eb. with_both (nth st.terms n) _ _ (Good past)
        (λ e. pass Unknown (λ t. tt) tt)
        (λ m em. tests sa sb m ea eb em)))
      where
        tests : (sa sb : Script) (m : Term) → nth st.scripts a ≡ Some sa → nth st.scripts b ≡ Some sb → nth st.terms n ≡ Some m
            → Good past (step_tests st a b n sa sb (get_or st.scripts 0 []) m)
        tests sa sb m ea eb em =
            cond_good past (eqb a b) _ _ (λ q. pass NoTwoParties (λ t. tt) tt)
            (λ q. with_both (name_of st a) _ _ (Good past)
            (λ e. pass NoTwoParties (λ t. tt) tt)
            (λ na ena. with_both (name_of st b) _ _ (Good past)
            (λ e. pass NoTwoParties (λ t. tt) tt)
            (λ nb enb. cond_good past (ltb (length st.steps) 64) _ _
            (λ r. with_both (find sa nb) _ _ (Good past)
            (λ e. pass NoAddress (λ t. tt) tt)
            (λ address at. delivered sa sb m na nb ea eb em (eqb-false a b q) ena enb address at (compose (freshens sa (fresh_names st m)) m) refl))
            (λ r. pass LastStep (λ t. tt) tt))))

  good : (c : Call) → Good past (perform st c)
  good (NAME c) = name_good c
  good (BUILD f a b) = build_good f a b
  good (KNOW p n) = know_good p n
  good (STEP a b n) = step_good a b n
  good (CAN p n) = can_good p n

-- what holds of every state that came about
pub came_stable : StatesAreStable
came_stable [] st e = subst (Stable []) (sym e) stable_blank
came_stable (d ∷ past) st w =
    let g = good past w.0 (came_stable past w.0 w.1) w.2.0 in
    subst (Stable (d ∷ past)) w.2.2 (subst (λ x. Stable (x ∷ past) (perform w.0 w.2.0).state) w.2.1 g.stable)

pub answers_are_right_lem : AnswersAreRight
answers_are_right_lem past st w c = (good past st (came_stable past st w) c).right

pub missing_is_named : MissingIsNamed
missing_is_named past st w c = (good past st (came_stable past st w) c).missed

pub numbers_stand : NumbersStand
numbers_stand past st w n t = let v = (came_stable past st w).numbers in (v.stands_to n t, v.stands_from n t)
