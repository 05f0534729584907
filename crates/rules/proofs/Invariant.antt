-- What holds of every state that came about is kept by calls that write into no script, and by NAME.
use Rattle.std.proofs.Common.{◌≡◌, ℕ, zero, suc, ◌+◌, ◌<◌, Bool, true, false, ◌||◌, ◌⊎◌, ◌↔◌, List, [], ◌∷◌, ◌++◌, length, Some, None, Decides, sym, refl, ap, ◌∙◌, subst, inl, inr, arith, length-append}
use Rattle.std.proofs.lemmas.List.{append-nil}
use Rattle.std.proofs.lemmas.Bool.Decides.{Decides-like, Decides-at}
use Rattle.deduction.specs.Term.{Kind, party, number, shared, public, table, function, Form, pair, sealed, Term, name, built, Formed, Occurs, In}
use Rattle.deduction.specs.Term.{among}
use Rattle.deduction.specs.Derive.{DerivesFrom}
use Rattle.deduction.specs.Compose.{Composable, Saturated, Represents}
use Rattle.deduction.proofs.Members.{in_left, in_right}
use Rattle.deduction.proofs.Derive.{derives_given, derives_grow}
use Rattle.deduction.proofs.Compose.{represents_same}
use Rattle.rules.specs.Script.{Op, GIVEN, Script, line, held}
use Rattle.rules.specs.State.{State, blank, Told, named, nth, used_in_some, used_in_steps, used, new_terms, new_scripts, names}
use Rattle.rules.specs.History.{History, Stands, opens, parties, Shows, Shown, Used, FreshKind, Gives, Given}
use Rattle.rules.specs.Grows.{Apart, Grows, stays, adds, gives, Fits, bringing, Proper, Written}
use Rattle.rules.specs.Invariant.{Numbered, Agent, Stable}
use Rattle.rules.proofs.Find.{some_none}
use Rattle.rules.proofs.Grows.{grows_join, grows_map, grows_composable, grows_apart, grows_within, grows_derived, fits_map}
use Rattle.rules.proofs.Nth.{some_is, nth_below, nth_either}
use Rattle.rules.proofs.Numbers.{numbered_blank, named_numbered}
use Rattle.rules.proofs.Used.{or_false, used_older, used_more}

pub written_held : (ts : List Term) (s : Script) → Written ts s → (t : Term) → In t (held s) → In t ts
written_held ts s w = grows_within (λ t. In t ts) Proper w (λ t h. absurd h)

pub written_apart : (ts : List Term) (s : Script) → Written ts s → Apart s
written_apart ts s w = grows_apart (λ t. In t ts) Proper w (λ i j t h. absurd (some_none None h refl))

written_more : (ts new : List Term) (s : Script) → Written ts s → Written (ts ++ new) s
written_more ts new s =
    grows_map (Fits (λ t. In t ts) Proper) (Fits (λ t. In t (ts ++ new)) Proper)
    (fits_map (λ t. In t ts) (λ t. In t (ts ++ new)) Proper Proper (λ t h. in_left t ts new h) (λ op t g. g))

pub represents_given : (H G G' : Term → Type 0) → ((t : Term) → G t ↔ G' t) → Represents H G → Represents H G'
represents_given H G G' = represents_same H H G G' (λ t. ((λ h. h), (λ h. h)))

-- one more call, which gives the agent nothing
module _ (past : History) (d : Told) (p : ℕ) (s : Script) (nothing : (t : Term) → Gives past d p t → ⊥) where
  given_same : (t : Term) → Given past p t ↔ Given (d ∷ past) p t
  given_same t = (inl, back)
    where
      back : Given past p t ⊎ Gives past d p t → Given past p t
      back (inl g) = g
      back (inr g) = absurd (nothing t g)

  pub agent_same : (ts : List Term) → Agent past ts p s → Agent (d ∷ past) ts p s
  agent_same ts a =
      record { represents = represents_given (among (held s)) (Given past p) (Given (d ∷ past) p) given_same a.represents; written = a.written }

pub agent_more : (past : History) (p : ℕ) (s : Script) (ts new : List Term) → Agent past ts p s → Agent past (ts ++ new) p s
agent_more past p s ts new a = record { represents = a.represents; written = written_more ts new s a.written }

-- one more call, for which the script grew by lines that fit what it gives
pub agent_grows : (past : History) (d : Told) (ts : List Term) → ((t : Term) → In t ts → Formed t) → (p : ℕ) (s s1 : Script) → Agent past ts p s
    → (G : Op → Term → Type 0) → ((op : Op) (t : Term) → G op t → Proper op t) → ((op : Op) (t : Term) → G op t → Gives past d p t)
    → Grows (Fits (λ t. In t ts) G) s s1
    → ((t : Term) → Gives past d p t → Composable (held s1) t) → Saturated (held s1) → Agent (d ∷ past) ts p s1
agent_grows past d ts formed p s s1 a G proper given g made saturated =
    record {
      represents = record { covers = covers; sound = sound; saturated = saturated };
      written =
          grows_join (Fits P Proper) a.written (grows_map (Fits P G) (Fits P Proper) (fits_map P P G Proper (λ t h. h) proper) g);
    }
  where
    P : Term → Type 0
    P t = In t ts

    covers : (t : Term) → Given past p t ⊎ Gives past d p t → Composable (held s1) t
    covers t (inl x) = grows_composable (Fits P G) g t (a.represents.covers t x)
    covers t (inr x) = made t x

    sound : (t : Term) → In t (held s1) → DerivesFrom (Given (d ∷ past) p) t
    sound =
        grows_derived P G formed (Given (d ∷ past) p) (λ op t x. derives_given (Given (d ∷ past) p) t (inr (given op t x))) g
        (λ t h. derives_grow (Given past p) (Given (d ∷ past) p) (λ u x. inl x) t (a.represents.sound t h))

-- used names after a call that shows none but used ones
pub used_still : (past : History) (d : Told) (k : Kind) (i : ℕ) (b : Bool) → ((t : Term) → Shows (Stands past) d t → Occurs k i t → Used past k i)
    → Decides b (Used past k i) → Decides b (Used (d ∷ past) k i)
used_still past d k i b shown = Decides-like b (used_older d past k i) back
  where
    back : Used (d ∷ past) k i → Used past k i
    back (inl e) = inl e
    back (inr w) = go w.1
      where
        go : Shown past w.0 ⊎ Shows (Stands past) d w.0 → Used past k i
        go (inl x) = inr (w.0, x, w.2)
        go (inr x) = shown w.0 x w.2

-- a call that writes into no script
module _ (past : History) (st : State) (v : Stable past st) (d : Told) (new : List Term) (numbers : Numbered (d ∷ past) (st.terms ++ new))
    (none : opens d ≡ 0) (nothing : (p : ℕ) (t : Term) → Gives past d p t → ⊥) (hidden : (t : Term) → Shows (Stands past) d t → ⊥) where
  pub stable_adds : Stable (d ∷ past) (record { terms = st.terms ++ new; scripts = st.scripts; steps = st.steps })
  stable_adds =
      record {
        numbers = numbers;
        count = (let e = v.count in omega arith);
        agent = λ p s e. agent_same past d p s (nothing p) (st.terms ++ new) (agent_more past p s st.terms new (v.agent p s e));
        given_known = known;
        used_right = λ k i f. used_still past d k i (used st k i) (λ t x o. absurd (hidden t x)) (v.used_right k i f);
      }
    where
      known : (p : ℕ) (t : Term) → Given (d ∷ past) p t → p < length st.scripts
      known p t (inl g) = v.given_known p t g
      known p t (inr g) = absurd (nothing p t g)

-- the same where it adds no term
pub stable_same : (past : History) (st : State) → Stable past st → (d : Told) → Numbered (d ∷ past) st.terms
    → opens d ≡ 0 → ((p : ℕ) (t : Term) → Gives past d p t → ⊥) → ((t : Term) → Shows (Stands past) d t → ⊥) → Stable (d ∷ past) st
stable_same past st v d numbers none nothing hidden =
    record {
      numbers = numbers;
      count = (let e = v.count in omega arith);
      agent = λ p s e. agent_same past d p s (nothing p) st.terms (v.agent p s e);
      given_known = known;
      used_right = λ k i f. used_still past d k i (used st k i) (λ t x o. absurd (hidden t x)) (v.used_right k i f);
    }
  where
    known : (p : ℕ) (t : Term) → Given (d ∷ past) p t → p < length st.scripts
    known p t (inl g) = v.given_known p t g
    known p t (inr g) = absurd (nothing p t g)

pub stable_blank : Stable [] blank
stable_blank =
    record {
      numbers = numbered_blank;
      count = refl;
      agent = agent;
      given_known = λ p t g. absurd g;
      used_right = λ k i f. ((λ e. let z : ◌≡◌ {A = ℕ} 0 1 = cc in absurd (omega arith)), unused k i f);
    }
  where
    agent : (p : ℕ) (s : Script) → nth ([] ∷ []) p ≡ Some s → Agent [] [] p s
    agent (suc p) s e = absurd (some_none None e refl)
    agent zero s e = subst (Agent [] [] zero) (some_is e) empty
      where
        empty : Agent [] [] zero []
        empty =
            record {
              represents =
                  record {
                    covers = λ t g. absurd g;
                    sound = λ t h. absurd h;
                    saturated = record { lefts = λ a b h. absurd h; rights = λ a b h. absurd h; contents = λ c k h o. absurd h };
                  };
              written = stays;
            }

    unused : (k : Kind) (i : ℕ) → FreshKind k → Used [] k i → false ≡ true
    unused k i f (inl e) = absurd (subst FreshKind e f)
    unused k i f (inr w) = absurd w.1

-- NAME
module _ (past : History) (st : State) (v : Stable past st) where
  abbrev n : ℕ
  n = length st.terms

  abbrev scripts : Kind → List Script
  scripts k = st.scripts ++ new_scripts k n

  new_count : (k : Kind) → length (new_scripts k n) ≡ opens (named k n)
  new_count party = refl
  new_count number = refl
  new_count shared = refl
  new_count public = refl
  new_count table = refl
  new_count function = refl

  counted : (k : Kind) → length (scripts k) ≡ parties (named k n ∷ past) + 1
  counted k = let a = length-append st.scripts (new_scripts k n) in let b = new_count k in let c = v.count in omega arith

  -- the new agent
  opened : (ts : List Term) → In (name party n) ts
      → Agent (named party n ∷ past) ts (parties past + 1) (line (GIVEN (name party n)) (Some (name party n)) ∷ [])
  opened ts mine =
      record {
        represents = record {
          covers = covers;
          sound = sound;
          saturated =
              record { lefts = λ a b h. absurd (single pair a b h); rights = λ a b h. absurd (single pair a b h); contents = λ c k h o. absurd (single sealed c k h) };
        };
        written = adds stays (bringing (gives refl tt) (λ h. h) mine);
      }
    where
      single : (f : Form) (a b : Term) → In (built f a b) (name party n ∷ []) → ⊥
      single f a b (inl e) = let z : ◌≡◌ {A = ℕ} 0 1 = cc in omega arith
      single f a b (inr h) = h

      covers : (t : Term) → Given (named party n ∷ past) (parties past + 1) t → Composable (name party n ∷ []) t
      covers t (inl g) = let a = v.given_known (parties past + 1) t g in let b = v.count in absurd (omega arith)
      covers t (inr g) = subst (Composable (name party n ∷ [])) (sym g.2) (inl refl)

      sound : (t : Term) → In t (name party n ∷ []) → DerivesFrom (Given (named party n ∷ past) (parties past + 1)) t
      sound t (inl e) = derives_given (Given (named party n ∷ past) (parties past + 1)) t (inr (refl, refl, sym e))
      sound t (inr h) = absurd h

  named_agent : (k : Kind) (p : ℕ) (s : Script) → nth (scripts k) p ≡ Some s → In (name k n) (st.terms ++ new_terms k n)
      → Agent (named k n ∷ past) (st.terms ++ new_terms k n) p s
  named_agent k p s e mine = go (nth_either st.scripts (new_scripts k n) p s e)
    where
      new : (j : Kind) (x : ℕ) → j ≡ k → p ≡ x + length st.scripts → nth (new_scripts j n) x ≡ Some s
          → Agent (named k n ∷ past) (st.terms ++ new_terms k n) p s
      new party zero q w f =
          let c = v.count in
          let pe : parties past + 1 ≡ p = omega arith in
          let m : In (name party n) (st.terms ++ new_terms k n) = subst (λ j. In (name j n) (st.terms ++ new_terms k n)) (sym q) mine in
          subst (Agent (named k n ∷ past) (st.terms ++ new_terms k n) p) (some_is f)
          (subst (λ x. Agent (named k n ∷ past) (st.terms ++ new_terms k n) x (line (GIVEN (name party n)) (Some (name party n)) ∷ [])) pe
          (subst (λ j. Agent (named j n ∷ past) (st.terms ++ new_terms k n) (parties past + 1) (line (GIVEN (name party n)) (Some (name party n)) ∷ [])) q
          (opened (st.terms ++ new_terms k n) m)))
      new party (suc x) q w f = absurd (some_none None f refl)
      new number x q w f = absurd (some_none None f refl)
      new shared x q w f = absurd (some_none None f refl)
      new public x q w f = absurd (some_none None f refl)
      new table x q w f = absurd (some_none None f refl)
      new function x q w f = absurd (some_none None f refl)

      go : (nth st.scripts p ≡ Some s) ⊎ ((x : ℕ) × (p ≡ x + length st.scripts) × (nth (new_scripts k n) x ≡ Some s))
          → Agent (named k n ∷ past) (st.terms ++ new_terms k n) p s
      go (inl h) =
          let b = nth_below st.scripts p s h in
          let c = v.count in
          agent_same past (named k n) p s (λ t g. let g1 = g.1 in omega arith) (st.terms ++ new_terms k n) (agent_more past p s st.terms (new_terms k n) (v.agent p s h))
      go (inr w) = new k w.0 refl w.1 w.2

  new_in : (k : Kind) → In (name k n) (new_terms k n)
  new_in party = inl refl
  new_in number = inl refl
  new_in shared = inl refl
  new_in public = inl refl
  new_in table = inl refl
  new_in function = inl refl

  new_unused : (k j : Kind) (i : ℕ) → FreshKind j → used_in_some j i (scripts k) ≡ used_in_some j i st.scripts
  new_unused party number i f =
      used_more number i st.scripts (line (GIVEN (name party n)) (Some (name party n)) ∷ []) ∙ or_false (used_in_some number i st.scripts)
  new_unused party shared i f =
      used_more shared i st.scripts (line (GIVEN (name party n)) (Some (name party n)) ∷ []) ∙ or_false (used_in_some shared i st.scripts)
  new_unused party public i f =
      used_more public i st.scripts (line (GIVEN (name party n)) (Some (name party n)) ∷ []) ∙ or_false (used_in_some public i st.scripts)
  new_unused party party i f = absurd f
  new_unused party table i f = absurd f
  new_unused party function i f = absurd f
  new_unused number j i f = ap (used_in_some j i) (append-nil st.scripts)
  new_unused shared j i f = ap (used_in_some j i) (append-nil st.scripts)
  new_unused public j i f = ap (used_in_some j i) (append-nil st.scripts)
  new_unused table j i f = ap (used_in_some j i) (append-nil st.scripts)
  new_unused function j i f = ap (used_in_some j i) (append-nil st.scripts)

  pub stable_named : (k : Kind) → Stable (named k n ∷ past) (names st k).state
  stable_named k =
      record {
        numbers = named_numbered past st.terms v.numbers k;
        count = counted k;
        agent = λ p s e. named_agent k p s e (in_right (name k n) st.terms (new_terms k n) (new_in k));
        given_known = known;
        used_right =
            λ j i f. Decides-at (used (names st k).state j i) (used st j i) (ap (λ x. x || used_in_steps j i st.steps) (new_unused k j i f))
            (used_still past (named k n) j i (used st j i) (λ t x o. absurd x) (v.used_right j i f));
      }
    where
      known : (p : ℕ) (t : Term) → Given (named k n ∷ past) p t → p < length (scripts k)
      known p t (inl g) = let a = v.given_known p t g in let b = length-append st.scripts (new_scripts k n) in omega arith
      known p t (inr g) =
          let g1 = g.1 in let c = v.count in let b = length-append st.scripts (new_scripts k n) in
          let o : length (new_scripts k n) ≡ 1 = new_count k ∙ ap (λ j. opens (named j n)) g.0 in
          omega arith
