-- What stands in a number's tree: lower numbers, and names of the table.
use Rattle.std.proofs.Common.{◌≡◌, ℕ, zero, suc, ◌<◌, ◌≤◌, List, length, sym, refl, ◌∙◌, subst, ap₂, inl, inr, not-suc-le-zero, arith}
use Rattle.deduction.specs.Term.{Term, name, built, mate, Occurs}
use Rattle.terms.specs.declared.node.Kind.{Kind}
use Rattle.terms.specs.declared.node.TermNode.{TermNode}
use Rattle.terms.specs.declared.node.TermNode.TheVariants.{Name, Built, Mate}
use Rattle.terms.specs.Node.{node_at, Lower}
use Rattle.terms.specs.Tree.{tree, tree_of, kind_of, Orderly}
use Rattle.terms.specs.Held.{Within}
use Rattle.terms.proofs.Trees.{tree_is, parts_lower, inside_lower, record_of}

module _ (ts : List TermNode) (low : Lower ts) where
  within_to : (n i : ℕ) → i < n → i < length ts → (t : Term) → Within t (tree ts i) → (j : ℕ) × (j ≤ i) × (tree ts j ≡ t)
  within_to zero i x l t w = absurd (not-suc-le-zero x)
  within_to (suc n) i x l t w = go (node_at ts i) refl (tree_is ts low i l) (subst (Within t) (tree_is ts low i l) w) (within_to n)
    where
      part : (a : ℕ) → a < i → (j : ℕ) × (j ≤ a) × (tree ts j ≡ t) → (j : ℕ) × (j ≤ i) × (tree ts j ≡ t)
      part a la (j, lj, e) = (j, omega arith, e)

      go : (r : TermNode) → node_at ts i ≡ r → tree ts i ≡ tree_of r (tree ts) → Within t (tree_of r (tree ts))
          → ((j : ℕ) → j < n → j < length ts → (s : Term) → Within s (tree ts j) → (k : ℕ) × (k ≤ j) × (tree ts k ≡ s)) → (j : ℕ) × (j ≤ i) × (tree ts j ≡ t)
      go (Name k m) e is v below = (i, omega arith, is ∙ sym v)
      go (Built f a b) e is (inl v) below = (i, omega arith, is ∙ sym v)
      go (Built f a b) e is (inr (inl v)) below =
          let p = parts_lower ts low i f a b l e in
          let la = p.0 in
          part a la (below a (omega arith) (omega arith) t v)
      go (Built f a b) e is (inr (inr v)) below =
          let p = parts_lower ts low i f a b l e in
          let lb = p.1 in
          part b lb (below b (omega arith) (omega arith) t v)
      go (Mate a) e is (inl v) below = (i, omega arith, is ∙ sym v)
      go (Mate a) e is (inr v) below =
          let la = inside_lower ts low i a l e in
          part a la (below a (omega arith) (omega arith) t v)

  -- every term that stands in a number's tree is the tree of a number that is not higher
  pub within_number : (i : ℕ) → i < length ts → (t : Term) → Within t (tree ts i) → (j : ℕ) × (j ≤ i) × (tree ts j ≡ t)
  within_number i = within_to (suc i) i (omega arith)

-- a name that occurs in a term stands in it
pub occurs_within : (k : Kind) (n : ℕ) (t : Term) → Occurs (kind_of k) n t → Within (name (kind_of k) n) t
occurs_within k n (name j m) o = ap₂ name o.0 o.1
occurs_within k n (built f a b) (inl o) = inr (inl (occurs_within k n a o))
occurs_within k n (built f a b) (inr o) = inr (inr (occurs_within k n b o))
occurs_within k n (mate e) o = inr (occurs_within k n e o)

-- a name that occurs in a number's tree has a number that is not higher
pub occurs_number : (ts : List TermNode) (ok : Orderly ts) (k : Kind) (n i : ℕ) → i < length ts → Occurs (kind_of k) n (tree ts i) → (j : ℕ) × (j ≤ i) × (node_at ts j ≡ Name k n)
occurs_number ts ok k n i l o =
    let w = within_number ts ok.lower i l (name (kind_of k) n) (occurs_within k n (tree ts i) o) in
    let lj = w.1 in
    (w.0, lj, record_of ts ok (Name k n) w.0 (omega arith, omega arith) (omega arith) w.2)
