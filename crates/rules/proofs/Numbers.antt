-- The terms of a state by number: what the numbers stand for in the history, kept by every call that adds terms.
use Rattle.std.proofs.Common.{◌≡◌, ℕ, zero, suc, ◌+◌, false, ◌⊎◌, List, [], ◌∷◌, ◌++◌, length, Some, None, sym, refl, ap, ◌∙◌, subst, inl, inr, arith, length-append}
use Rattle.deduction.specs.Term.{Kind, party, number, shared, public, table, function, Form, Term, name, built, mate, Formed, In}
use Rattle.deduction.proofs.Members.{in_left, in_right, in_either}
use Rattle.deduction.specs.Decide.{same_kind}
use Rattle.rules.specs.State.{Told, named, nth, party_of, party_names, name_at, new_terms}
use Rattle.rules.specs.History.{History, Adds, Stands, opens, parties, Opens, NameOf}
use Rattle.rules.specs.Grows.{Closed}
use Rattle.rules.specs.Invariant.{Numbered}
use Rattle.std.proofs.lemmas.Bool.{both_ways}
use Rattle.rules.proofs.Find.{some_none}
use Rattle.rules.proofs.Used.{kind_decides}
use Rattle.rules.proofs.Nth.{some_is, nth_in, in_nth, nth_below, nth_left, nth_right, nth_either}

pub numbered_blank : Numbered [] []
numbered_blank =
    record {
      stands_to = λ n t w. absurd w;
      stands_from = λ n t e. some_none None e refl;
      formed = λ t h. absurd h;
      closed = record { firsts = λ f a b h. h; seconds = λ f a b h. h; keys = λ k h. h };
      own = λ n k i e. absurd (some_none None e refl);
      apart = λ n m t e f. absurd (some_none None e refl);
      with_mates = λ i h. h;
      names_to = λ p t w. absurd w;
      names_from = λ p t. unnamed p t;
      agents = refl;
    }
  where
    unnamed : (p : ℕ) (t : Term) → name_at [] p ≡ Some t → ⊥
    unnamed zero t e = some_none None e refl
    unnamed (suc p) t e = some_none None e refl

-- a call that adds no term: if it answers a number, that stands for the term already
module _ (past : History) (ts : List Term) (v : Numbered past ts) (d : Told) (old : (n : ℕ) (t : Term) → Adds (Stands past) d n t → nth ts n ≡ Some t)
    (unopened : (p : ℕ) (t : Term) → Opens (parties past) d p t → ⊥) (none : opens d ≡ 0) where
  pub numbered_same : Numbered (d ∷ past) ts
  numbered_same =
      record {
        stands_to = to;
        stands_from = λ n t e. inl (v.stands_from n t e);
        formed = v.formed;
        closed = v.closed;
        own = v.own;
        apart = v.apart;
        with_mates = v.with_mates;
        names_to = names;
        names_from = λ p t e. inl (v.names_from p t e);
        agents = (let e = v.agents in omega arith);
      }
    where
      to : (n : ℕ) (t : Term) → Stands (d ∷ past) n t → nth ts n ≡ Some t
      to n t (inl w) = v.stands_to n t w
      to n t (inr a) = old n t a

      names : (p : ℕ) (t : Term) → NameOf (d ∷ past) p t → name_at ts p ≡ Some t
      names p t (inl w) = v.names_to p t w
      names p t (inr a) = absurd (unopened p t a)

-- new terms
pub record News (past : History) (ts : List Term) (d : Told) (new : List Term) : Type 0 where
  pub adds : (x : ℕ) (t : Term) → nth new x ≡ Some t → Adds (Stands past) d (x + length ts) t
  pub added : (n : ℕ) (t : Term) → Adds (Stands past) d n t → (x : ℕ) × (n ≡ x + length ts) × (nth new x ≡ Some t)
  pub well : (t : Term) → In t new → Formed t
  pub first_in : (f : Form) (a b : Term) → In (built f a b) new → In a (ts ++ new)
  pub second_in : (f : Form) (a b : Term) → In (built f a b) new → In b (ts ++ new)
  pub key_in : (k : Term) → In (mate k) new → In k (ts ++ new)
  pub owned : (x : ℕ) (k : Kind) (i : ℕ) → nth new x ≡ Some (name k i) → i ≡ x + length ts
  pub unseen : (t : Term) → In t new → In t ts → ⊥
  pub once : (x y : ℕ) (t : Term) → nth new x ≡ Some t → nth new y ≡ Some t → x ≡ y
  pub mates_in : (i : ℕ) → In (name public i) new → In (mate (name public i)) (ts ++ new)
  pub counted : opens d ≡ length (party_names new)
  pub opened_to : (p : ℕ) (t : Term) → Opens (parties past) d p t → (x : ℕ) × (p ≡ suc (x + parties past)) × (nth (party_names new) x ≡ Some t)
  pub opened_from : (x : ℕ) (t : Term) → nth (party_names new) x ≡ Some t → Opens (parties past) d (suc (x + parties past)) t

party_names_append : (xs ys : List Term) → party_names (xs ++ ys) ≡ party_names xs ++ party_names ys
party_names_append [] ys = refl
party_names_append (name k i ∷ xs) ys = go k (party_names_append xs ys)
  where
    go : (j : Kind) → party_names (xs ++ ys) ≡ party_names xs ++ party_names ys
        → party_of j (name j i) (party_names (xs ++ ys)) ≡ party_of j (name j i) (party_names xs) ++ party_names ys
    go party e = ap (λ z. name party i ∷ z) e
    go number e = e
    go shared e = e
    go public e = e
    go table e = e
    go function e = e
party_names_append (built f a b ∷ xs) ys = party_names_append xs ys
party_names_append (mate k ∷ xs) ys = party_names_append xs ys

module _ (past : History) (ts : List Term) (v : Numbered past ts) (d : Told) (new : List Term) (w : News past ts d new) where
  both : (n : ℕ) (t : Term) → nth (ts ++ new) n ≡ Some t → (nth ts n ≡ Some t) ⊎ ((x : ℕ) × (n ≡ x + length ts) × (nth new x ≡ Some t))
  both = nth_either ts new

  to : (n : ℕ) (t : Term) → Stands (d ∷ past) n t → nth (ts ++ new) n ≡ Some t
  to n t (inl s) = nth_left ts new n t (v.stands_to n t s)
  to n t (inr a) = let x = w.added n t a in nth_right ts new x.0 n x.1 ∙ x.2

  from : (n : ℕ) (t : Term) → nth (ts ++ new) n ≡ Some t → Stands (d ∷ past) n t
  from n t e = go (both n t e)
    where
      go : (nth ts n ≡ Some t) ⊎ ((x : ℕ) × (n ≡ x + length ts) × (nth new x ≡ Some t)) → Stands (d ∷ past) n t
      go (inl h) = inl (v.stands_from n t h)
      go (inr x) = inr (subst (λ m. Adds (Stands past) d m t) (sym x.1) (w.adds x.0 t x.2))

  well_formed : (t : Term) → In t (ts ++ new) → Formed t
  well_formed t h = go (in_either t ts new h)
    where
      go : In t ts ⊎ In t new → Formed t
      go (inl i) = v.formed t i
      go (inr i) = w.well t i

  is_closed : Closed (λ t. In t (ts ++ new))
  is_closed =
      record {
        firsts = λ f a b h. one f a b (in_either (built f a b) ts new h);
        seconds = λ f a b h. two f a b (in_either (built f a b) ts new h);
        keys = λ k h. key k (in_either (mate k) ts new h);
      }
    where
      one : (f : Form) (a b : Term) → In (built f a b) ts ⊎ In (built f a b) new → In a (ts ++ new)
      one f a b (inl i) = in_left a ts new (v.closed.firsts f a b i)
      one f a b (inr i) = w.first_in f a b i

      two : (f : Form) (a b : Term) → In (built f a b) ts ⊎ In (built f a b) new → In b (ts ++ new)
      two f a b (inl i) = in_left b ts new (v.closed.seconds f a b i)
      two f a b (inr i) = w.second_in f a b i

      key : (k : Term) → In (mate k) ts ⊎ In (mate k) new → In k (ts ++ new)
      key k (inl i) = in_left k ts new (v.closed.keys k i)
      key k (inr i) = w.key_in k i

  own_number : (n : ℕ) (k : Kind) (i : ℕ) → nth (ts ++ new) n ≡ Some (name k i) → i ≡ n
  own_number n k i e = go (both n (name k i) e)
    where
      go : (nth ts n ≡ Some (name k i)) ⊎ ((x : ℕ) × (n ≡ x + length ts) × (nth new x ≡ Some (name k i))) → i ≡ n
      go (inl h) = v.own n k i h
      go (inr x) = w.owned x.0 k i x.2 ∙ sym x.1

  apart_now : (n m : ℕ) (t : Term) → nth (ts ++ new) n ≡ Some t → nth (ts ++ new) m ≡ Some t → n ≡ m
  apart_now n m t e f = go (both n t e) (both m t f)
    where
      go : (nth ts n ≡ Some t) ⊎ ((x : ℕ) × (n ≡ x + length ts) × (nth new x ≡ Some t))
          → (nth ts m ≡ Some t) ⊎ ((x : ℕ) × (m ≡ x + length ts) × (nth new x ≡ Some t)) → n ≡ m
      go (inl a) (inl b) = v.apart n m t a b
      go (inl a) (inr y) = absurd (w.unseen t (nth_in new y.0 t y.2) (nth_in ts n t a))
      go (inr x) (inl b) = absurd (w.unseen t (nth_in new x.0 t x.2) (nth_in ts m t b))
      go (inr x) (inr y) = let q = w.once x.0 y.0 t x.2 y.2 in let x1 = x.1 in let y1 = y.1 in omega arith

  mates_now : (i : ℕ) → In (name public i) (ts ++ new) → In (mate (name public i)) (ts ++ new)
  mates_now i h = go (in_either (name public i) ts new h)
    where
      go : In (name public i) ts ⊎ In (name public i) new → In (mate (name public i)) (ts ++ new)
      go (inl x) = in_left (mate (name public i)) ts new (v.with_mates i x)
      go (inr x) = w.mates_in i x

  names_up : (p : ℕ) (t : Term) → name_at ts p ≡ Some t → name_at (ts ++ new) p ≡ Some t
  names_up zero t e = e
  names_up (suc p) t e = ap (λ z. nth z p) (party_names_append ts new) ∙ nth_left (party_names ts) (party_names new) p t e

  names_to_now : (p : ℕ) (t : Term) → NameOf (d ∷ past) p t → name_at (ts ++ new) p ≡ Some t
  names_to_now p t (inl s) = names_up p t (v.names_to p t s)
  names_to_now p t (inr a) =
      let x = w.opened_to p t a in
      let g = v.agents in
      ap (name_at (ts ++ new)) x.1 ∙ (ap (λ z. nth z (x.0 + parties past)) (party_names_append ts new)
      ∙ (nth_right (party_names ts) (party_names new) x.0 (x.0 + parties past) (omega arith) ∙ x.2))

  names_from_now : (p : ℕ) (t : Term) → name_at (ts ++ new) p ≡ Some t → NameOf (d ∷ past) p t
  names_from_now zero t e = absurd (some_none None e refl)
  names_from_now (suc p) t e = go (nth_either (party_names ts) (party_names new) p t (ap (λ z. nth z p) (sym (party_names_append ts new)) ∙ e))
    where
      go : (nth (party_names ts) p ≡ Some t) ⊎ ((x : ℕ) × (p ≡ x + length (party_names ts)) × (nth (party_names new) x ≡ Some t))
          → NameOf (d ∷ past) (suc p) t
      go (inl h) = inl (v.names_from (suc p) t h)
      go (inr x) =
          let g = v.agents in
          let x1 = x.1 in
          let q : suc (x.0 + parties past) ≡ suc p = omega arith in
          inr (subst (λ m. Opens (parties past) d m t) q (w.opened_from x.0 t x.2))

  pub numbered_news : Numbered (d ∷ past) (ts ++ new)
  numbered_news =
      record {
        stands_to = to;
        stands_from = from;
        formed = well_formed;
        closed = is_closed;
        own = own_number;
        apart = apart_now;
        with_mates = mates_now;
        names_to = names_to_now;
        names_from = names_from_now;
        agents =
            (let a = v.agents in let b = w.counted in let e = ap length (party_names_append ts new) in
            let l = length-append (party_names ts) (party_names new) in omega arith);
      }

-- NAME
module _ (past : History) (ts : List Term) (v : Numbered past ts) where
  unnamed : (k : Kind) → In (name k (length ts)) ts → ⊥
  unnamed k h =
      let x = in_nth ts (name k (length ts)) h in
      let a = v.own x.0 k (length ts) x.1 in
      let b = nth_below ts x.0 (name k (length ts)) x.1 in
      omega arith

  -- two kinds
  kinds_apart : (a b : Kind) → same_kind a b ≡ false → a ≡ b → ⊥
  kinds_apart a b f e = both_ways (same_kind a b) f ((kind_decides a b).1 e)

  -- the name alone
  module _ (k : Kind) (plain : k ≡ public → ⊥) (one : opens (named k (length ts)) ≡ length (party_names (name k (length ts) ∷ [])))
      (named-to : (p : ℕ) (t : Term) → Opens (parties past) (named k (length ts)) p t
      → (x : ℕ) × (p ≡ suc (x + parties past)) × (nth (party_names (name k (length ts) ∷ [])) x ≡ Some t))
      (named-from : (x : ℕ) (t : Term) → nth (party_names (name k (length ts) ∷ [])) x ≡ Some t
      → Opens (parties past) (named k (length ts)) (suc (x + parties past)) t) where
    abbrev new : List Term
    new = name k (length ts) ∷ []

    name_news : News past ts (named k (length ts)) new
    name_news =
        record {
          adds = adds;
          added = added;
          well = well;
          first_in = λ f a b h. absurd (unbuilt f a b h);
          second_in = λ f a b h. absurd (unbuilt f a b h);
          key_in = λ e h. absurd (unmated e h);
          owned = owned;
          unseen = unseen;
          once = once;
          mates_in = λ i h. absurd (unpublic i h);
          counted = one;
          opened_to = named-to;
          opened_from = named-from;
        }
      where
        adds : (x : ℕ) (t : Term) → nth new x ≡ Some t → Adds (Stands past) (named k (length ts)) (x + length ts) t
        adds zero t e = inl (omega arith, sym (some_is e))
        adds (suc x) t e = absurd (some_none None e refl)

        added : (n : ℕ) (t : Term) → Adds (Stands past) (named k (length ts)) n t → (x : ℕ) × (n ≡ x + length ts) × (nth new x ≡ Some t)
        added n t (inl a) = let a0 = a.0 in (zero, omega arith, ap Some (sym a.1))
        added n t (inr a) = absurd (plain a.0)

        well : (t : Term) → In t new → Formed t
        well t (inl e) = subst Formed e tt
        well t (inr h) = absurd h

        unbuilt : (f : Form) (a b : Term) → In (built f a b) new → ⊥
        unbuilt f a b (inl e) = let z : ◌≡◌ {A = ℕ} 0 1 = cc in omega arith
        unbuilt f a b (inr h) = h

        unmated : (e : Term) → In (mate e) new → ⊥
        unmated x (inl e) = let z : ◌≡◌ {A = ℕ} 0 1 = cc in omega arith
        unmated x (inr h) = h

        owned : (x : ℕ) (j : Kind) (i : ℕ) → nth new x ≡ Some (name j i) → i ≡ x + length ts
        owned zero j i e = let q : i ≡ length ts = cc in omega arith
        owned (suc x) j i e = absurd (some_none None e refl)

        unseen : (t : Term) → In t new → In t ts → ⊥
        unseen t (inl e) i = unnamed k (subst (λ u. In u ts) (sym e) i)
        unseen t (inr h) i = h

        once : (x y : ℕ) (t : Term) → nth new x ≡ Some t → nth new y ≡ Some t → x ≡ y
        once zero zero t e f = refl
        once zero (suc y) t e f = absurd (some_none None f refl)
        once (suc x) y t e f = absurd (some_none None e refl)

        unpublic : (i : ℕ) → In (name public i) new → ⊥
        unpublic i (inl e) = plain (cc)
        unpublic i (inr h) = h

  -- a public key and its mate
  public_news : News past ts (named public (length ts)) (new_terms public (length ts))
  public_news =
      record {
        adds = adds;
        added = added;
        well = well;
        first_in = λ f a b h. absurd (unbuilt f a b h);
        second_in = λ f a b h. absurd (unbuilt f a b h);
        key_in = key_in;
        owned = owned;
        unseen = unseen;
        once = once;
        mates_in = mates_in;
        counted = refl;
        opened_to = λ p t o. let o0 = o.0 in let z : ◌≡◌ {A = ℕ} 0 1 = cc in absurd (omega arith);
        opened_from = λ x t e. absurd (some_none None e refl);
      }
    where
      N : Term
      N = name public (length ts)

      adds : (x : ℕ) (t : Term) → nth (new_terms public (length ts)) x ≡ Some t → Adds (Stands past) (named public (length ts)) (x + length ts) t
      adds zero t e = inl (omega arith, sym (some_is e))
      adds (suc zero) t e = inr (refl, omega arith, sym (some_is e))
      adds (suc (suc x)) t e = absurd (some_none None e refl)

      added : (n : ℕ) (t : Term) → Adds (Stands past) (named public (length ts)) n t
          → (x : ℕ) × (n ≡ x + length ts) × (nth (new_terms public (length ts)) x ≡ Some t)
      added n t (inl a) = let a0 = a.0 in (zero, omega arith, ap Some (sym a.1))
      added n t (inr a) = let a1 = a.1 in (suc zero, omega arith, ap Some (sym a.2))

      well : (t : Term) → In t (new_terms public (length ts)) → Formed t
      well t (inl e) = subst Formed e tt
      well t (inr (inl e)) = subst Formed e (tt, refl)
      well t (inr (inr h)) = absurd h

      unbuilt : (f : Form) (a b : Term) → In (built f a b) (new_terms public (length ts)) → ⊥
      unbuilt f a b (inl e) = let z : ◌≡◌ {A = ℕ} 0 1 = cc in omega arith
      unbuilt f a b (inr (inl e)) = let z : ◌≡◌ {A = ℕ} 0 1 = cc in omega arith
      unbuilt f a b (inr (inr h)) = h

      key_in : (k : Term) → In (mate k) (new_terms public (length ts)) → In k (ts ++ (new_terms public (length ts)))
      key_in k (inl e) = let z : ◌≡◌ {A = ℕ} 0 1 = cc in absurd (omega arith)
      key_in k (inr (inl e)) = in_right k ts (new_terms public (length ts)) (inl (cc))
      key_in k (inr (inr h)) = absurd h

      owned : (x : ℕ) (j : Kind) (i : ℕ) → nth (new_terms public (length ts)) x ≡ Some (name j i) → i ≡ x + length ts
      owned zero j i e = let q : i ≡ length ts = cc in omega arith
      owned (suc zero) j i e = let z : ◌≡◌ {A = ℕ} 0 1 = cc in absurd (omega arith)
      owned (suc (suc x)) j i e = absurd (some_none None e refl)

      unseen : (t : Term) → In t (new_terms public (length ts)) → In t ts → ⊥
      unseen t (inl e) i = unnamed public (subst (λ u. In u ts) (sym e) i)
      unseen t (inr (inl e)) i = unnamed public (v.closed.keys N (subst (λ u. In u ts) (sym e) i))
      unseen t (inr (inr h)) i = h

      once : (x y : ℕ) (t : Term) → nth (new_terms public (length ts)) x ≡ Some t → nth (new_terms public (length ts)) y ≡ Some t → x ≡ y
      once zero zero t e f = refl
      once zero (suc zero) t e f = let z : ◌≡◌ {A = ℕ} 0 1 = cc in absurd (omega arith)
      once zero (suc (suc y)) t e f = absurd (some_none None f refl)
      once (suc zero) zero t e f = let z : ◌≡◌ {A = ℕ} 0 1 = cc in absurd (omega arith)
      once (suc zero) (suc zero) t e f = refl
      once (suc zero) (suc (suc y)) t e f = absurd (some_none None f refl)
      once (suc (suc x)) y t e f = absurd (some_none None e refl)

      mates_in : (i : ℕ) → In (name public i) (new_terms public (length ts)) → In (mate (name public i)) (ts ++ (new_terms public (length ts)))
      mates_in i (inl e) =
          let q : mate (name public (length ts)) ≡ mate (name public i) = cc in
          in_right (mate (name public i)) ts (new_terms public (length ts)) (inr (inl q))
      mates_in i (inr (inl e)) = let z : ◌≡◌ {A = ℕ} 0 1 = cc in absurd (omega arith)
      mates_in i (inr (inr h)) = absurd h

  -- a name that is no party's opens no agent
  other_news : (k : Kind) → same_kind k public ≡ false → same_kind k party ≡ false → opens (named k (length ts)) ≡ 0
      → party_names (name k (length ts) ∷ []) ≡ []
      → News past ts (named k (length ts)) (name k (length ts) ∷ [])
  other_news k p q no-agent nameless =
      name_news k (kinds_apart k public p) (no-agent ∙ ap length (sym nameless)) (λ m t o. absurd (kinds_apart k party q o.0))
      (λ x t e. absurd (some_none None (sym (ap (λ z. nth z x) nameless) ∙ e) refl))

  pub named_numbered : (k : Kind) → Numbered (named k (length ts) ∷ past) (ts ++ new_terms k (length ts))
  named_numbered k = numbered_news past ts v (named k (length ts)) (new_terms k (length ts)) (go k)
    where
      from_party : (x : ℕ) (t : Term) → nth (name party (length ts) ∷ []) x ≡ Some t
          → Opens (parties past) (named party (length ts)) (suc (x + parties past)) t
      from_party zero t e = (refl, omega arith, sym (some_is e))
      from_party (suc x) t e = absurd (some_none None e refl)

      go : (j : Kind) → News past ts (named j (length ts)) (new_terms j (length ts))
      go party =
          name_news party (kinds_apart party public refl) refl (λ p t o. let o1 = o.1 in (zero, omega arith, ap Some (sym o.2))) from_party
      go number = other_news number refl refl refl refl
      go shared = other_news shared refl refl refl refl
      go public = public_news
      go table = other_news table refl refl refl refl
      go function = other_news function refl refl refl refl
