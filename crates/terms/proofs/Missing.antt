-- What is missing first in a term that is not composable.
use Rattle.std.proofs.Common.{◌≡◌, ℕ, ◌<◌, Bool, ◌⊎◌, List, length, sym, refl, ◌∙◌, subst, inl, inr}
use Rattle.deduction.specs.Term.{Term, name, built, mate, In}
use Rattle.deduction.specs.Compose.{Composable}
use Rattle.terms.specs.declared.node.Form.{Form}
use Rattle.terms.specs.declared.node.TermNode.{TermNode}
use Rattle.terms.specs.declared.node.TermNode.TheVariants.{Name, Built, Mate}
use Rattle.terms.specs.Node.{node_at}
use Rattle.terms.specs.Tree.{tree, kind_of, Orderly}
use Rattle.terms.specs.Held.{held_terms, ComposableId, FirstMissing, Undivided, Within}
use Rattle.terms.proofs.Trees.{tree_at}

-- a term in which something is missing is not composable
pub missing_composable : (held : List Term) (t m : Term) → FirstMissing held t m → Composable held t → ⊥
missing_composable held (name k i) m w h = w.0 h
missing_composable held (built f a b) m (out, inl w) (inl h) = out h
missing_composable held (built f a b) m (out, inr w) (inl h) = out h
missing_composable held (built f a b) m (out, inl w) (inr h) = missing_composable held a m w h.0
missing_composable held (built f a b) m (out, inr w) (inr h) = missing_composable held b m w.1 h.1
missing_composable held (mate k) m w h = w.0 h

-- one term is missing first
pub missing_once : (held : List Term) (t m n : Term) → FirstMissing held t m → FirstMissing held t n → m ≡ n
missing_once held (name k i) m n v w = v.1 ∙ sym w.1
missing_once held (built f a b) m n (out, inl v) (on, inl w) = missing_once held a m n v w
missing_once held (built f a b) m n (out, inl v) (on, inr w) = absurd (missing_composable held a m v w.0)
missing_once held (built f a b) m n (out, inr v) (on, inl w) = absurd (missing_composable held a n w v.0)
missing_once held (built f a b) m n (out, inr v) (on, inr w) = missing_once held b m n v.1 w.1
missing_once held (mate k) m n v w = v.1 ∙ sym w.1

-- what is missing is a name or a mate in the term, and is not held
pub missing_lacking : (held : List Term) (t m : Term) → FirstMissing held t m → Undivided m × Within m t × (In m held → ⊥)
missing_lacking held (name k i) m (out, e) = subst (λ n. Undivided n × (n ≡ name k i) × (In n held → ⊥)) (sym e) (tt, refl, out)
missing_lacking held (built f a b) m (out, inl w) = let q = missing_lacking held a m w in (q.0, inr (inl q.1), q.2)
missing_lacking held (built f a b) m (out, inr w) = let q = missing_lacking held b m w.1 in (q.0, inr (inr q.1), q.2)
missing_lacking held (mate k) m (out, e) = subst (λ n. Undivided n × ((n ≡ mate k) ⊎ Within n k) × (In n held → ⊥)) (sym e) (tt, inl refl, out)

module _ (ts : List TermNode) (held : List Bool) (ok : Orderly ts) (i : ℕ) (l : i < length ts) (out : ComposableId ts held i → ⊥) where
  itself : (t : Term) → tree ts i ≡ t → ((Composable (held_terms ts held) t → ⊥) → FirstMissing (held_terms ts held) t t)
      → FirstMissing (held_terms ts held) (tree ts i) (tree ts i)
  itself t is here =
      subst (λ s. FirstMissing (held_terms ts held) s s) (sym is) (here (λ h. out (subst (Composable (held_terms ts held)) (sym is) h)))

  -- of a name or a mate that is not composable, it is itself that is missing
  pub missing_itself : (r : TermNode) → node_at ts i ≡ r → ((f : Form) (a b : ℕ) → r ≡ Built f a b → ⊥)
      → FirstMissing (held_terms ts held) (tree ts i) (tree ts i)
  missing_itself (Name k n) e leaf = itself (name (kind_of k) n) (tree_at ts ok.lower i (Name k n) l e) (λ none. (none, refl))
  missing_itself (Built f a b) e leaf = absurd (leaf f a b refl)
  missing_itself (Mate a) e leaf = itself (mate (tree ts a)) (tree_at ts ok.lower i (Mate a) l e) (λ none. (none, refl))
