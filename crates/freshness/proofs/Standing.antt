-- What stands within what: parts, parts of parts, and the term of which another is a part.
use Rattle.std.proofs.Common.{◌≡◌, ℕ, zero, suc, ◌<◌, true, eqb, ◌⊎◌, List, length, sym, refl, ap, ◌∙◌, subst, inl, inr, not-suc-le-zero, arith}
use Rattle.std.proofs.lemmas.Bool.{eqb-true, eq-eqb, or_cases, or_left, or_right, false≢true}
use Rattle.deduction.specs.Term.{Term, name, built, mate}
use Rattle.terms.specs.declared.node.TermNode.{TermNode}
use Rattle.terms.specs.declared.node.TermNode.TheVariants.{Name, Built, Mate}
use Rattle.terms.specs.Node.{node_at}
use Rattle.terms.specs.Tree.{tree, tree_of, form_of, Orderly}
use Rattle.terms.specs.Held.{Within}
use Rattle.terms.proofs.Trees.{tree_at, tree_is, parts_lower, inside_lower, numbers_apart}
use Rattle.freshness.specs.Occurring.{is_part}

-- a term stands within itself
pub within_self : (t : Term) → Within t t
within_self (name k i) = refl
within_self (built f a b) = inl refl
within_self (mate k) = inl refl

-- what stands within what stands within a term stands within the term
pub within_trans : (x y z : Term) → Within x y → Within y z → Within x z
within_trans x y (name k i) v w = subst (Within x) w v
within_trans x y (built f a b) v (inl w) = subst (Within x) w v
within_trans x y (built f a b) v (inr (inl w)) = inr (inl (within_trans x y a v w))
within_trans x y (built f a b) v (inr (inr w)) = inr (inr (within_trans x y b v w))
within_trans x y (mate k) v (inl w) = subst (Within x) w v
within_trans x y (mate k) v (inr w) = inr (within_trans x y k v w)

module _ (ts : List TermNode) (ok : Orderly ts) where
  -- a part has a lower number, and stands within the whole
  pub part_within : (p j : ℕ) → p < length ts → is_part j (node_at ts p) ≡ true → (j < p) × Within (tree ts j) (tree ts p)
  part_within p j l e = go (node_at ts p) refl e
    where
      go : (r : TermNode) → node_at ts p ≡ r → is_part j r ≡ true → (j < p) × Within (tree ts j) (tree ts p)
      go (Name k i) is q = absurd (false≢true q)
      go (Built f a b) is q = either (or_cases (eqb a j) (eqb b j) q)
        where
          low : (a < p) × (b < p)
          low = parts_lower ts ok.lower p f a b l is

          whole : tree ts p ≡ built (form_of f) (tree ts a) (tree ts b)
          whole = tree_at ts ok.lower p (Built f a b) l is

          either : (eqb a j ≡ true) ⊎ (eqb b j ≡ true) → (j < p) × Within (tree ts j) (tree ts p)
          either (inl h) =
              let s = eqb-true a j h in
              (subst (λ n. n < p) s low.0, subst (λ n. Within (tree ts n) (tree ts p)) s (subst (Within (tree ts a)) (sym whole) (inr (inl (within_self (tree ts a))))))
          either (inr h) =
              let s = eqb-true b j h in
              (subst (λ n. n < p) s low.1, subst (λ n. Within (tree ts n) (tree ts p)) s (subst (Within (tree ts b)) (sym whole) (inr (inr (within_self (tree ts b))))))
      go (Mate a) is q =
          let s = eqb-true a j q in
          let whole = tree_at ts ok.lower p (Mate a) l is in
          (subst (λ n. n < p) s (inside_lower ts ok.lower p a l is), subst (λ n. Within (tree ts n) (tree ts p)) s (subst (Within (tree ts a)) (sym whole) (inr (within_self (tree ts a)))))

  -- the number is a part of one that stands within t
  abbrev pub PartIn : ℕ → ℕ → Type 0
  PartIn j t = (p : ℕ) × (p < length ts) × (is_part j (node_at ts p) ≡ true) × Within (tree ts p) (tree ts t)

  whole_to : (n t j : ℕ) → t < n → t < length ts → j < length ts → Within (tree ts j) (tree ts t) → (j ≡ t) ⊎ PartIn j t
  whole_to zero t j x lt lj w = absurd (not-suc-le-zero x)
  whole_to (suc n) t j x lt lj w = go (node_at ts t) refl (tree_is ts ok.lower t lt) (subst (Within (tree ts j)) (tree_is ts ok.lower t lt) w) (whole_to n)
    where
      itself : (s : Term) → tree ts t ≡ s → tree ts j ≡ s → (j ≡ t) ⊎ PartIn j t
      itself s is v = inl (numbers_apart ts ok j t lj lt (v ∙ sym is))

      -- the part a of t is met
      under : (a : ℕ) → is_part a (node_at ts t) ≡ true → (j ≡ a) ⊎ PartIn j a → (j ≡ t) ⊎ PartIn j t
      under a part (inl e) = inr (t, lt, subst (λ m. is_part m (node_at ts t) ≡ true) (sym e) part, within_self (tree ts t))
      under a part (inr (p, lp, q, v)) = inr (p, lp, q, within_trans (tree ts p) (tree ts a) (tree ts t) v (part_within t a lt part).1)

      go : (r : TermNode) → node_at ts t ≡ r → tree ts t ≡ tree_of r (tree ts) → Within (tree ts j) (tree_of r (tree ts))
          → ((u i : ℕ) → u < n → u < length ts → i < length ts → Within (tree ts i) (tree ts u) → (i ≡ u) ⊎ PartIn i u) → (j ≡ t) ⊎ PartIn j t
      go (Name k i) e is v below = itself _ is v
      go (Built f a b) e is (inl v) below = itself _ is v
      go (Built f a b) e is (inr (inl v)) below =
          let low = parts_lower ts ok.lower t f a b lt e in
          let la = low.0 in
          under a (ap (is_part a) e ∙ or_left (eqb a a) (eqb b a) (eq-eqb a a refl)) (below a j (omega arith) (omega arith) lj v)
      go (Built f a b) e is (inr (inr v)) below =
          let low = parts_lower ts ok.lower t f a b lt e in
          let lb = low.1 in
          under b (ap (is_part b) e ∙ or_right (eqb a b) (eqb b b) (eq-eqb b b refl)) (below b j (omega arith) (omega arith) lj v)
      go (Mate a) e is (inl v) below = itself _ is v
      go (Mate a) e is (inr v) below =
          let la = inside_lower ts ok.lower t a lt e in
          under a (ap (is_part a) e ∙ eq-eqb a a refl) (below a j (omega arith) (omega arith) lj v)

  -- what stands within a term is the term itself, or a part of something that stands within it
  pub whole_of : (t j : ℕ) → t < length ts → j < length ts → Within (tree ts j) (tree ts t) → (j ≡ t) ⊎ PartIn j t
  whole_of t j = whole_to (suc t) t j (omega arith)
