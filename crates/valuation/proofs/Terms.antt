-- The terms of a protocol are settled: new names are, and a term built of terms that fit is.
use Rattle.std.proofs.Common.{◌≡◌, ℕ, zero, suc, ◌+◌, ◌≤◌, Bool, true, false, cond, ◌⊎◌, List, [], ◌∷◌, ◌++◌, length, Some, refl, subst, inl, inr, arith}
use mathlib.Core.Bool.{false≢true}
use Rattle.std.proofs.lemmas.Bool.{and_parts}
use Rattle.deduction.specs.Term.{Kind, party, number, shared, public, table, function, Kind-discrete, Form, pair, sealed, digest, entry, Term, name, built, mate, KeyKind, KeyForm, Key, mate_of, Named, PartsFit, Formed, Occurs, In}
use Rattle.deduction.proofs.Members.{in_left, in_right, in_either}
use Rattle.provider.specs.Algebra.{last_id}
use Rattle.deduction.specs.Decide.{decided, is_key, is_key_form, is_key_kind, is_named, parts_fit}
use Rattle.rules.specs.State.{State, nth, party_of, party_names, name_of, is_fresh, fresh_among, new_terms}
use Rattle.valuation.specs.Fit.{InPlace, Settled}

in_place_more : (ts more : List Term) (t : Term) → InPlace ts t → InPlace (ts ++ more) t
in_place_more ts more (name k i) h = (h.0, λ e. in_left (mate (name k i)) ts more (h.1 e))
in_place_more ts more (built f a b) h = (in_left a ts more h.0, in_left b ts more h.1, h.2)
in_place_more ts more (mate k) h = (in_left k ts more h.0, h.1)

settled_more : (ts more : List Term) → Settled ts → ((t : Term) → In t more → InPlace (ts ++ more) t) → Settled (ts ++ more)
settled_more ts more h k t i = go (in_either t ts more i)
  where
    go : In t ts ⊎ In t more → InPlace (ts ++ more) t
    go (inl x) = in_place_more ts more t (h t x)
    go (inr x) = k t x

-- one more term that has its place
pub one_settled : (ts : List Term) (t : Term) → Settled ts → InPlace ts t → Settled (ts ++ (t ∷ []))
one_settled ts t h k = settled_more ts (t ∷ []) h new
  where
    new : (u : Term) → In u (t ∷ []) → InPlace (ts ++ (t ∷ [])) u
    new u (inl e) = subst (InPlace (ts ++ (t ∷ []))) e (in_place_more ts (t ∷ []) t k)
    new u (inr x) = absurd x

-- a public key and its mate, which stand side by side
public_settled : (ts : List Term) (n : ℕ) → Settled ts → n ≤ last_id → Settled (ts ++ new_terms public n)
public_settled ts n h l = settled_more ts (new_terms public n) h new
  where
    new : (t : Term) → In t (new_terms public n) → InPlace (ts ++ new_terms public n) t
    new t (inl e) = subst (InPlace (ts ++ new_terms public n)) e (l, λ q. in_right (mate (name public n)) ts (new_terms public n) (inr (inl refl)))
    new t (inr (inl e)) = subst (InPlace (ts ++ new_terms public n)) e (in_right (name public n) ts (new_terms public n) (inl refl), refl)
    new t (inr (inr x)) = absurd x

pub names_settled : (k : Kind) (ts : List Term) → Settled ts → length ts + length (new_terms k (length ts)) ≤ 512 → Settled (ts ++ new_terms k (length ts))
names_settled party ts h l = one_settled ts (name party (length ts)) h (omega arith, λ e. let z : ◌≡◌ {A = ℕ} 0 1 = cc in absurd (omega arith))
names_settled number ts h l = one_settled ts (name number (length ts)) h (omega arith, λ e. let z : ◌≡◌ {A = ℕ} 0 1 = cc in absurd (omega arith))
names_settled shared ts h l = one_settled ts (name shared (length ts)) h (omega arith, λ e. let z : ◌≡◌ {A = ℕ} 0 1 = cc in absurd (omega arith))
names_settled public ts h l = public_settled ts (length ts) h (omega arith)
names_settled table ts h l = one_settled ts (name table (length ts)) h (omega arith, λ e. let z : ◌≡◌ {A = ℕ} 0 1 = cc in absurd (omega arith))
names_settled function ts h l = one_settled ts (name function (length ts)) h (omega arith, λ e. let z : ◌≡◌ {A = ℕ} 0 1 = cc in absurd (omega arith))

-- settled terms are well-formed
pub settled_formed : (ts : List Term) → Settled ts → (t : Term) → In t ts → Formed t
settled_formed ts h (name k i) x = tt
settled_formed ts h (built f a b) x = let w = h (built f a b) x in (settled_formed ts h a w.0, settled_formed ts h b w.1, w.2)
settled_formed ts h (mate k) x = let w = h (mate k) x in (settled_formed ts h k w.0, w.1)

-- and the names in them have ids up to 65,535
pub settled_small : (ts : List Term) → Settled ts → (t : Term) → In t ts → (k : Kind) (i : ℕ) → Occurs k i t → i ≤ last_id
settled_small ts h (name j n) x k i o = rw o.1 (h (name j n) x).0
settled_small ts h (built f a b) x k i (inl o) = settled_small ts h a (h (built f a b) x).0 k i o
settled_small ts h (built f a b) x k i (inr o) = settled_small ts h b (h (built f a b) x).1 k i o
settled_small ts h (mate e) x k i o = settled_small ts h e (h (mate e) x).0 k i o

-- what the tests of kinds say

is_key_kind_lem : (k : Kind) → is_key_kind k ≡ true → KeyKind k
is_key_kind_lem party e = absurd (false≢true e)
is_key_kind_lem number e = absurd (false≢true e)
is_key_kind_lem shared e = tt
is_key_kind_lem public e = tt
is_key_kind_lem table e = absurd (false≢true e)
is_key_kind_lem function e = absurd (false≢true e)

is_key_form_lem : (f : Form) → is_key_form f ≡ true → KeyForm f
is_key_form_lem pair e = absurd (false≢true e)
is_key_form_lem sealed e = absurd (false≢true e)
is_key_form_lem digest e = absurd (false≢true e)
is_key_form_lem entry e = tt

is_key_lem : (t : Term) → is_key t ≡ true → Key t
is_key_lem (name k i) e = is_key_kind_lem k e
is_key_lem (built f a b) e = is_key_form_lem f e
is_key_lem (mate k) e = tt

is_named_lem : (k : Kind) (t : Term) → is_named k t ≡ true → Named k t
is_named_lem k (name j i) e = go (Kind-discrete j k) e
  where
    go : (d : Dec (j ≡ k)) → decided d ≡ true → j ≡ k
    go (yes p) q = p
    go (no p) q = absurd (false≢true q)
is_named_lem k (built f a b) e = absurd (false≢true e)
is_named_lem k (mate t) e = absurd (false≢true e)

parts_fit_lem : (f : Form) (a b : Term) → parts_fit f a b ≡ true → PartsFit f a b
parts_fit_lem pair a b e = tt
parts_fit_lem sealed a b e = is_key_lem b e
parts_fit_lem digest a b e = is_named_lem function a e
parts_fit_lem entry a b e = let w = and_parts (is_named table a) (is_named party b) e in (is_named_lem table a w.0, is_named_lem party b w.1)

-- a two-part term of terms that fit has its place, and so has the mate of a key
pub built_in_place : (ts : List Term) (f : Form) (a b : Term) → In a ts → In b ts → parts_fit f a b ≡ true → InPlace ts (built f a b)
built_in_place ts f a b i j e = (i, j, parts_fit_lem f a b e)

pub mate_in_place : (ts : List Term) → Settled ts → (t : Term) → In t ts → is_key t ≡ true → InPlace ts (mate_of t)
mate_in_place ts h (name party i) x e = absurd (false≢true e)
mate_in_place ts h (name number i) x e = absurd (false≢true e)
mate_in_place ts h (name shared i) x e = h (name shared i) x
mate_in_place ts h (name public i) x e = (x, refl)
mate_in_place ts h (name table i) x e = absurd (false≢true e)
mate_in_place ts h (name function i) x e = absurd (false≢true e)
mate_in_place ts h (built f a b) x e = (x, is_key_form_lem f e)
mate_in_place ts h (mate k) x e = h k (h (mate k) x).0

-- which terms are looked up

pub nth_in : {A : Type 0} (xs : List A) (n : ℕ) (x : A) → nth xs n ≡ Some x → In x xs
nth_in [] n x e = let z : ◌≡◌ {A = ℕ} 0 1 = cc in absurd (omega arith)
nth_in (y ∷ xs) zero x e = let p : y ≡ x = cc in inl p
nth_in (y ∷ xs) (suc n) x e = inr (nth_in xs n x e)

party_in : (k : Kind) (t u : Term) (ts : List Term) → In u (party_of k t ts) → (t ≡ u) ⊎ In u ts
party_in party t u ts h = h
party_in number t u ts h = inr h
party_in shared t u ts h = inr h
party_in public t u ts h = inr h
party_in table t u ts h = inr h
party_in function t u ts h = inr h

parties_in : (t : Term) (ts : List Term) → In t (party_names ts) → In t ts
parties_in t [] h = h
parties_in t (name k i ∷ ts) h = go (parties_in t ts) (party_in k (name k i) t (party_names ts) h)
  where
    go : (In t (party_names ts) → In t ts) → (name k i ≡ t) ⊎ In t (party_names ts) → (name k i ≡ t) ⊎ In t ts
    go rest (inl e) = inl e
    go rest (inr x) = inr (rest x)
parties_in t (built f a b ∷ ts) h = inr (parties_in t ts h)
parties_in t (mate k ∷ ts) h = inr (parties_in t ts h)

-- the name of an agent is one of the terms
pub name_in : (st : State) (p : ℕ) (t : Term) → name_of st p ≡ Some t → In t st.terms
name_in st zero t e = let z : ◌≡◌ {A = ℕ} 0 1 = cc in absurd (omega arith)
name_in st (suc p) t e = parties_in t st.terms (nth_in (party_names st.terms) p t e)

-- so are the fresh names of a message
pub fresh_in : (st : State) (m : Term) (ts : List Term) (t : Term) → In t (fresh_among st m ts) → In t ts
fresh_in st m [] t h = h
fresh_in st m (u ∷ ts) t h = go (fresh_in st m ts t) (is_fresh st m u) h
  where
    go : (In t (fresh_among st m ts) → In t ts) → (b : Bool) → In t (cond b (u ∷ fresh_among st m ts) (fresh_among st m ts)) → (u ≡ t) ⊎ In t ts
    go rest true (inl e) = inl e
    go rest true (inr x) = inr (rest x)
    go rest false x = inr (rest x)
