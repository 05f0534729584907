-- The fresh names of a message: those that the state finds are those that the history has, and with them a sender's script represents
-- what the sender is given for the message.
use Rattle.std.proofs.Common.{◌≡◌, ℕ, zero, suc, Bool, true, false, cond, not, ◌&&◌, ◌⊎◌, ◌↔◌, List, [], ◌∷◌, Some, Decides, sym, refl, ap, ◌∙◌, subst, inl, inr, arith}
use Rattle.std.proofs.lemmas.Bool.Decides.{Decides-and, Decides-not}
use Rattle.deduction.specs.Term.{Kind, party, number, shared, public, table, function, Term, name, built, mate, Occurs, In, among}
use Rattle.deduction.specs.Derive.{FreshFor}
use Rattle.deduction.specs.Compose.{Represents}
use Rattle.deduction.proofs.Derive.{derives_names}
use Rattle.deduction.proofs.Fresh.{fresh_represents}
use Rattle.deduction.proofs.Compose.{represents_same}
use Rattle.rules.specs.Script.{Op, FRESH, MATE, Script, held}
use Rattle.rules.specs.Effects.{freshens}
use Rattle.rules.specs.State.{State, nth, occurs, used, fresh_kind, is_fresh, fresh_among, fresh_names}
use Rattle.rules.specs.History.{History, Used, FreshKind, FreshIn, Given}
use Rattle.rules.specs.Grows.{Grows, Fits, FreshTerm, IsName, Once, Unheld}
use Rattle.rules.specs.Invariant.{Stable}
use Rattle.rules.proofs.Grows.{grows_held, grows_within}
use Rattle.rules.proofs.Nth.{in_nth}
use Rattle.rules.proofs.Saturate.{Free}
use Rattle.rules.proofs.Effects.{Freshening, freshens_grows, freshens_made}
use Rattle.rules.proofs.Used.{occurs_decides, occurs_in, given_used}

fresh_kind_lem : (k : Kind) → Decides (fresh_kind k) (FreshKind k)
fresh_kind_lem party = ((λ e. let z : ◌≡◌ {A = ℕ} 0 1 = cc in absurd (omega arith)), (λ f. absurd f))
fresh_kind_lem number = ((λ e. tt), (λ f. refl))
fresh_kind_lem shared = ((λ e. tt), (λ f. refl))
fresh_kind_lem public = ((λ e. tt), (λ f. refl))
fresh_kind_lem table = ((λ e. let z : ◌≡◌ {A = ℕ} 0 1 = cc in absurd (omega arith)), (λ f. absurd f))
fresh_kind_lem function = ((λ e. let z : ◌≡◌ {A = ℕ} 0 1 = cc in absurd (omega arith)), (λ f. absurd f))

-- the chosen ones of a list
module _ (st : State) (m : Term) where
  fresh_out : (ts : List Term) (t : Term) → In t (fresh_among st m ts) → In t ts × (is_fresh st m t ≡ true)
  fresh_out [] t h = absurd h
  fresh_out (u ∷ us) t h = go (fresh_out us t) (is_fresh st m u) refl h
    where
      go : (In t (fresh_among st m us) → In t us × (is_fresh st m t ≡ true)) → (b : Bool) → is_fresh st m u ≡ b
          → In t (cond b (u ∷ fresh_among st m us) (fresh_among st m us)) → In t (u ∷ us) × (is_fresh st m t ≡ true)
      go rest true e (inl q) = (inl q, ap (is_fresh st m) (sym q) ∙ e)
      go rest true e (inr i) = let w = rest i in (inr w.0, w.1)
      go rest false e i = let w = rest i in (inr w.0, w.1)

  fresh_in : (ts : List Term) (t : Term) → In t ts → is_fresh st m t ≡ true → In t (fresh_among st m ts)
  fresh_in [] t h f = absurd h
  fresh_in (u ∷ us) t h f = go (λ i. fresh_in us t i f) (is_fresh st m u) refl h
    where
      go : (In t us → In t (fresh_among st m us)) → (b : Bool) → is_fresh st m u ≡ b → In t (u ∷ us)
          → In t (cond b (u ∷ fresh_among st m us) (fresh_among st m us))
      go rest true e (inl q) = inl q
      go rest true e (inr i) = inr (rest i)
      go rest false e (inl q) = let r : is_fresh st m u ≡ true = ap (is_fresh st m) q ∙ f in let z : ◌≡◌ {A = ℕ} 0 1 = cc in absurd (omega arith)
      go rest false e (inr i) = rest i

  fresh_once : (ts : List Term) → Once ts → Once (fresh_among st m ts)
  fresh_once [] o = tt
  fresh_once (u ∷ us) o = go (fresh_once us o.1) (is_fresh st m u)
    where
      go : Once (fresh_among st m us) → (b : Bool) → Once (cond b (u ∷ fresh_among st m us) (fresh_among st m us))
      go rest true = ((λ i. o.0 (fresh_out us u i).0), rest)
      go rest false = rest

apart_once : (ts : List Term) → ((n k : ℕ) (t : Term) → nth ts n ≡ Some t → nth ts k ≡ Some t → n ≡ k) → Once ts
apart_once [] a = tt
apart_once (t ∷ ts) a = (
  (λ i. let w = in_nth ts t i in let q : zero ≡ suc w.0 = a zero (suc w.0) t refl w.1 in omega arith),
  apart_once ts (λ n k u e f. let q : suc n ≡ suc k = a (suc n) (suc k) u e f in omega arith),
)

module _ (past : History) (st : State) (v : Stable past st) (m : Term) (hm : In m st.terms) where
  fresh_decides : (k : Kind) (i : ℕ) → Decides (is_fresh st m (name k i)) (FreshKind k × (Occurs k i m × (Used past k i → ⊥)))
  fresh_decides k i = (out, back)
    where
      rest : FreshKind k → Decides (occurs k i m && not (used st k i)) (Occurs k i m × (Used past k i → ⊥))
      rest f = Decides-and (occurs k i m) (not (used st k i)) (occurs_decides k i m) (Decides-not (used st k i) (v.used_right k i f))

      split : (x y : Bool) → fresh_kind k ≡ x → (occurs k i m && not (used st k i)) ≡ y → (x && y) ≡ true
          → FreshKind k × (Occurs k i m × (Used past k i → ⊥))
      split true true e g h = let f = (fresh_kind_lem k).0 e in (f, (rest f).0 g)
      split true false e g h = let z : ◌≡◌ {A = ℕ} 0 1 = cc in absurd (omega arith)
      split false y e g h = let z : ◌≡◌ {A = ℕ} 0 1 = cc in absurd (omega arith)

      out : is_fresh st m (name k i) ≡ true → FreshKind k × (Occurs k i m × (Used past k i → ⊥))
      out e = split (fresh_kind k) (occurs k i m && not (used st k i)) refl refl e

      back : FreshKind k × (Occurs k i m × (Used past k i → ⊥)) → is_fresh st m (name k i) ≡ true
      back w = (let a = (fresh_kind_lem k).1 w.0 in let b = (rest w.0).1 w.1 in join (fresh_kind k) (occurs k i m && not (used st k i)) a b)
        where
          join : (x y : Bool) → x ≡ true → y ≡ true → (x && y) ≡ true
          join true y a b = b
          join false y a b = a

  fresh_named : (t : Term) → is_fresh st m t ≡ true → IsName t
  fresh_named (name k i) e = tt
  fresh_named (built f a b) e = let z : ◌≡◌ {A = ℕ} 0 1 = cc in absurd (omega arith)
  fresh_named (mate k) e = let z : ◌≡◌ {A = ℕ} 0 1 = cc in absurd (omega arith)

  -- fresh by the state is fresh by the history
  pub fresh_to : (u : Term) → FreshTerm (fresh_names st m) u → FreshIn past m u
  fresh_to u (inl h) = let w = fresh_out st m st.terms u h in go u w.1
    where
      go : (t : Term) → is_fresh st m t ≡ true → FreshIn past m t
      go (name k i) e = let q = (fresh_decides k i).0 e in (k, i, q.0, q.1.0, q.1.1, inl refl)
      go (built f a b) e = absurd (fresh_named (built f a b) e)
      go (mate k) e = absurd (fresh_named (mate k) e)
  fresh_to u (inr w) =
      let x = fresh_out st m st.terms (name public w.0) w.2 in
      let q = (fresh_decides public w.0).0 x.1 in
      (public, w.0, q.0, q.1.0, q.1.1, inr (refl, w.1))

  pub fresh_from : (u : Term) → FreshIn past m u → FreshTerm (fresh_names st m) u
  fresh_from u w = go w.5
    where
      mine : In (name w.0 w.1) (fresh_names st m)
      mine =
          fresh_in st m st.terms (name w.0 w.1) (occurs_in (λ t. In t st.terms) v.numbers.closed w.0 w.1 m hm w.3)
          ((fresh_decides w.0 w.1).1 (w.2, (w.3, w.4)))

      go : (u ≡ name w.0 w.1) ⊎ ((w.0 ≡ public) × (u ≡ mate (name w.0 w.1))) → FreshTerm (fresh_names st m) u
      go (inl e) = inl (subst (λ t. In t (fresh_names st m)) (sym e) mine)
      go (inr e) =
          inr (w.1, e.1 ∙ ap (λ j. mate (name j w.1)) e.0, subst (λ j. In (name j w.1) (fresh_names st m)) e.0 mine)

  fresh_terms : (u : Term) → FreshTerm (fresh_names st m) u → In u st.terms
  fresh_terms u (inl h) = (fresh_out st m st.terms u h).0
  fresh_terms u (inr w) =
      subst (λ t. In t st.terms) (sym w.1) (v.numbers.with_mates w.0 (fresh_out st m st.terms (name public w.0) w.2).0)

  pub freshening : (P : Term → Type 0) (G : Op → Term → Type 0) → ((u : Term) → FreshTerm (fresh_names st m) u → P u)
      → ((k : Kind) (i : ℕ) → FreshKind k → G (FRESH (name k i)) (name k i)) → ((n i : ℕ) → G (MATE n) (mate (name public i)))
      → Freshening P G (fresh_names st m)
  freshening P G p g h =
      record {
        are_names = λ t i. fresh_named t (fresh_out st m st.terms t i).1;
        once = fresh_once st m st.terms (apart_once st.terms v.numbers.apart);
        within = p;
        fresh = λ t i. named t (fresh_out st m st.terms t i).1;
        mated = λ n i w. h n i;
      }
    where
      named : (t : Term) → is_fresh st m t ≡ true → G (FRESH t) t
      named (name k i) e = g k i ((fresh_decides k i).0 e).0
      named (built f a b) e = absurd (fresh_named (built f a b) e)
      named (mate k) e = absurd (fresh_named (mate k) e)

  -- for the sender a, whose script is s
  module _ (a : ℕ) (s : Script) (es : nth st.scripts a ≡ Some s) where
    fresh_for : (u : Term) → FreshIn past m u → FreshFor (Given past a) u
    fresh_for u w = record { kind = w.0; identity = w.1; shape = w.5; unused = λ g x o. w.4 (given_used past a g w.0 w.1 x o) }

    own_occurs : (u : Term) (w : FreshIn past m u) → Occurs w.0 w.1 u
    own_occurs u w = go w.5
      where
        go : (u ≡ name w.0 w.1) ⊎ ((w.0 ≡ public) × (u ≡ mate (name w.0 w.1))) → Occurs w.0 w.1 u
        go (inl e) = subst (Occurs w.0 w.1) (sym e) (refl, refl)
        go (inr e) = subst (Occurs w.0 w.1) (sym e.1) (refl, refl)

    pub fresh_unheld : Unheld s (fresh_names st m)
    fresh_unheld u x h =
        let w = fresh_to u x in
        let n = derives_names (Given past a) w.0 w.1 u ((v.agent a s es).represents.sound u h) (own_occurs u w) in
        w.4 (given_used past a n.0 w.0 w.1 n.1 n.2)

    abbrev Now : Term → Type 0
    Now t = In t (held s) ⊎ FreshIn past m t

    fresh_held : (u : Term) → (In u (held s) ⊎ FreshIn past m u) ↔ In u (held (freshens s (fresh_names st m)))
    fresh_held u = (into, back)
      where
        f : Freshening Now Free (fresh_names st m)
        f = freshening Now Free (λ t x. inr (fresh_to t x)) (λ k i x. tt) (λ n i. tt)

        g : Grows (Fits Now Free) s (freshens s (fresh_names st m))
        g = freshens_grows Now Free (fresh_names st m) s f fresh_unheld

        into : In u (held s) ⊎ FreshIn past m u → In u (held (freshens s (fresh_names st m)))
        into (inl h) = grows_held (Fits Now Free) g u h
        into (inr w) = freshens_made Now Free (fresh_names st m) s f fresh_unheld u (fresh_from u w)

        back : In u (held (freshens s (fresh_names st m))) → In u (held s) ⊎ FreshIn past m u
        back = grows_within Now Free g (λ t h. inl h) u

    -- with the fresh names the script represents what is given for the message
    pub sender_represents : Represents (among (held (freshens s (fresh_names st m)))) (λ u. Given past a u ⊎ FreshIn past m u)
    sender_represents =
        represents_same Now (among (held (freshens s (fresh_names st m)))) (λ u. Given past a u ⊎ FreshIn past m u) (λ u. Given past a u ⊎ FreshIn past m u)
        fresh_held (λ u. ((λ x. x), (λ x. x)))
        (fresh_represents (Given past a) (among (held s)) (FreshIn past m) (v.agent a s es).represents fresh_for)

    -- the fresh names fit
    pub sender_grows : (G : Op → Term → Type 0) → ((k : Kind) (i : ℕ) → FreshKind k → G (FRESH (name k i)) (name k i))
        → ((n i : ℕ) → G (MATE n) (mate (name public i)))
        → Grows (Fits (λ t. In t st.terms) G) s (freshens s (fresh_names st m))
    sender_grows G g h =
        freshens_grows (λ t. In t st.terms) G (fresh_names st m) s
        (freshening (λ t. In t st.terms) G fresh_terms g h) fresh_unheld
