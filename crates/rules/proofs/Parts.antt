-- The parts of a term contain the parts of each of them.
use Rattle.std.proofs.Common.{◌≡◌, ◌⊎◌, List, [], ◌∷◌, ◌++◌, sym, refl, subst, inl, inr}
use Rattle.deduction.specs.Term.{Term, name, built, mate, In}
use Rattle.deduction.proofs.Members.{in_left, in_right, in_either}
use Rattle.rules.specs.Saturate.{parts, all_parts}
use Rattle.rules.specs.Grows.{Closed}

-- c is a part of p at the first depth
abbrev Child : Term → Term → Type 0
Child c (name k i) = ⊥
Child c (built f a b) = (a ≡ c) ⊎ (b ≡ c)
Child c (mate k) = k ≡ c

pub parts_self : (t : Term) → In t (parts t)
parts_self (name k i) = inl refl
parts_self (built f a b) = inl refl
parts_self (mate k) = inl refl

parts_child : (c p t : Term) → Child c p → In p (parts t) → In c (parts t)
parts_child c p (name k i) x (inl e) = absurd (subst (Child c) (sym e) x)
parts_child c p (name k i) x (inr h) = absurd h
parts_child c p (built f a b) x (inl e) = go (subst (Child c) (sym e) x)
  where
    go : (a ≡ c) ⊎ (b ≡ c) → In c (parts (built f a b))
    go (inl q) = inr (in_left c (parts a) (parts b) (subst (λ u. In u (parts a)) q (parts_self a)))
    go (inr q) = inr (in_right c (parts a) (parts b) (subst (λ u. In u (parts b)) q (parts_self b)))
parts_child c p (built f a b) x (inr h) = go (parts_child c p a x) (parts_child c p b x) (in_either p (parts a) (parts b) h)
  where
    go : (In p (parts a) → In c (parts a)) → (In p (parts b) → In c (parts b)) → In p (parts a) ⊎ In p (parts b) → In c (parts (built f a b))
    go l r (inl i) = inr (in_left c (parts a) (parts b) (l i))
    go l r (inr i) = inr (in_right c (parts a) (parts b) (r i))
parts_child c p (mate k) x (inl e) = inr (subst (λ u. In u (parts k)) (subst (Child c) (sym e) x) (parts_self k))
parts_child c p (mate k) x (inr h) = inr (parts_child c p k x h)

-- the parts of a term of a closed set are in it
pub parts_closed : (P : Term → Type 0) → Closed P → (t : Term) → P t → (u : Term) → In u (parts t) → P u
parts_closed P c (name k i) p u (inl e) = subst P e p
parts_closed P c (name k i) p u (inr h) = absurd h
parts_closed P c (built f a b) p u (inl e) = subst P e p
parts_closed P c (built f a b) p u (inr h) =
    go (parts_closed P c a (c.firsts f a b p) u) (parts_closed P c b (c.seconds f a b p) u) (in_either u (parts a) (parts b) h)
  where
    go : (In u (parts a) → P u) → (In u (parts b) → P u) → In u (parts a) ⊎ In u (parts b) → P u
    go l r (inl i) = l i
    go l r (inr i) = r i
parts_closed P c (mate k) p u (inl e) = subst P e p
parts_closed P c (mate k) p u (inr h) = parts_closed P c k (c.keys k p) u h

all_child : (c p : Term) (ts : List Term) → Child c p → In p (all_parts ts) → In c (all_parts ts)
all_child c p [] x h = h
all_child c p (t ∷ ts) x h = go (all_child c p ts x) (in_either p (parts t) (all_parts ts) h)
  where
    go : (In p (all_parts ts) → In c (all_parts ts)) → In p (parts t) ⊎ In p (all_parts ts) → In c (parts t ++ all_parts ts)
    go rest (inl i) = in_left c (parts t) (all_parts ts) (parts_child c p t x i)
    go rest (inr i) = in_right c (parts t) (all_parts ts) (rest i)

pub all_parts_lem : (ts : List Term) (t : Term) → In t ts → In t (all_parts ts)
all_parts_lem [] t h = h
all_parts_lem (u ∷ us) t (inl e) = in_left t (parts u) (all_parts us) (subst (λ x. In x (parts u)) e (parts_self u))
all_parts_lem (u ∷ us) t (inr h) = in_right t (parts u) (all_parts us) (all_parts_lem us t h)

pub all_closed : (ts : List Term) → Closed (λ t. In t (all_parts ts))
all_closed ts =
    record {
      firsts = λ f a b h. all_child a (built f a b) ts (inl refl) h;
      seconds = λ f a b h. all_child b (built f a b) ts (inr refl) h;
      keys = λ k h. all_child k (mate k) ts refl h;
    }
