-- The fresh names of a message, by marks.
use Rattle.std.proofs.Common.{◌≡◌, ℕ, zero, suc, ◌+◌, ◌<◌, ◌≤◌, Bool, true, false, List, length, get_or, Some, None, Option, sym, refl, ap, ◌∙◌, subst, arith}
use mathlib.Core.Bool.{false≢true}
use mathlib.Core.Logic.{∥∥₁_elim}
use Rattle.deduction.specs.Term.{public, Term, name, built, mate, Named, In}
use Rattle.terms.specs.declared.node.Kind.{Kind}
use Rattle.terms.specs.declared.node.TermNode.{TermNode}
use Rattle.terms.specs.declared.node.TermNode.TheVariants.{Name, Built, Mate}
use Rattle.terms.specs.Held.{held_terms}
use Rattle.terms.specs.Listed.{listed}
use Rattle.terms.specs.Node.{node_at}
use Rattle.terms.specs.Tree.{tree}
use Rattle.terms.proofs.Listed.{orderly}
use Rattle.terms.proofs.Trees.{tree_at}
use Rattle.effects.specs.Sending.{marked_from, marked_trees, NamesMarked, MateKnown, MatesKnown}
use Rattle.freshness.specs.Fresh.{FreshNames}
use Rattle.freshness.proofs.Naming.{fresh_by_rules}
use Rattle.rules.specs.State.{is_fresh, fresh_among, fresh_names, place_of}
use Rattle.rules.proofs.Law.{came_stable}
use Rattle.rules.proofs.Nth.{place_is, place_none, nth_below, some_is}
use Rattle.protocol.specs.declared.protocol.Protocol.{Protocol}
use Rattle.protocol.specs.Stepping.{ShowsUsed}
use Rattle.protocol.specs.States.{trees_from, trees}
use Rattle.protocol.specs.View.{view_of}
use Rattle.protocol.proofs.Trees.{nth_trees, length_trees, trees_in}

module _ (c : Protocol) (m : ℕ) (lm : m < length (listed c.terms)) (shown : List Bool) (uses : ShowsUsed c shown) (fresh : List Bool)
    (names : FreshNames (listed c.terms) shown m fresh) where
  is_fresh_lem : (i : ℕ) → i < length (listed c.terms) → get_or fresh i false ≡ is_fresh (view_of c) (tree (listed c.terms) m) (tree (listed c.terms) i)
  is_fresh_lem i l =
      names.fresh lm i l ∙ fresh_by_rules (view_of c) (held_terms (listed c.terms) shown) uses.uses (tree (listed c.terms) m) (tree (listed c.terms) i)

  from_on : (n k : ℕ) → n + k ≤ length (listed c.terms)
      → marked_from (listed c.terms) fresh n k ≡ fresh_among (view_of c) (tree (listed c.terms) m) (trees_from (listed c.terms) n k)
  from_on n zero l = refl
  from_on n (suc k) l = rw (is_fresh_lem n (omega arith), from_on (n + 1) k (omega arith)) refl

  pub fresh_marked : marked_trees (listed c.terms) fresh ≡ fresh_names (view_of c) (tree (listed c.terms) m)
  unfolding trees
  fresh_marked = from_on 0 (length (listed c.terms)) (omega arith)

  pub names_marked : NamesMarked (listed c.terms) fresh
  names_marked i l e = go (node_at (listed c.terms) i) refl
    where
      fresh_here : is_fresh (view_of c) (tree (listed c.terms) m) (tree (listed c.terms) i) ≡ true
      fresh_here = sym (is_fresh_lem i l) ∙ e

      go : (r : TermNode) → node_at (listed c.terms) i ≡ r → (k : Kind) × (j : ℕ) × (node_at (listed c.terms) i ≡ Name k j)
      go (Name k j) q = (k, j, q)
      go (Built f a b) q =
          absurd (false≢true (sym (ap (is_fresh (view_of c) (tree (listed c.terms) m)) (tree_at (listed c.terms) (orderly c.terms).lower i (Built f a b) l q)) ∙ fresh_here))
      go (Mate a) q =
          absurd (false≢true (sym (ap (is_fresh (view_of c) (tree (listed c.terms) m)) (tree_at (listed c.terms) (orderly c.terms).lower i (Mate a) l q)) ∙ fresh_here))

-- beside a public key its mate is a term
module _ (c : Protocol) where
  has_mate : (i : ℕ) → i < length (listed c.terms) → (j : ℕ) → tree (listed c.terms) i ≡ name public j → (In (mate (name public j)) (view_of c).terms → ⊥) → ⊥
  has_mate i l j e none =
      ∥∥₁_elim c.came (λ x y. absurd x) (λ w. none ((came_stable w.0 (view_of c) w.1).numbers.with_mates j (subst (λ t. In t (view_of c).terms) e (trees_in (listed c.terms) i l))))

  mate_known : (i : ℕ) → i < length (listed c.terms) → MateKnown (listed c.terms) i
  mate_known i l p = go (tree (listed c.terms) i) refl p
    where
      place : (j : ℕ) → tree (listed c.terms) i ≡ name public j → (o : Option ℕ) → place_of (view_of c).terms (mate (name public j)) ≡ o
          → (x : ℕ) × (x < length (listed c.terms)) × (tree (listed c.terms) x ≡ mate (tree (listed c.terms) i))
      place j e None q = absurd (has_mate i l j e (place_none (view_of c).terms (mate (name public j)) q))
      place j e (Some x) q =
          let y = place_is (view_of c).terms (mate (name public j)) x q in
          let b : x < length (listed c.terms) = omega (arith, nth_below (view_of c).terms x (mate (name public j)) y, length_trees (listed c.terms)) in
          (x, b, some_is (sym (nth_trees (listed c.terms) x b) ∙ y) ∙ ap mate (sym e))

      go : (t : Term) → tree (listed c.terms) i ≡ t → Named public t → (x : ℕ) × (x < length (listed c.terms)) × (tree (listed c.terms) x ≡ mate (tree (listed c.terms) i))
      go (name k j) e q = let f : tree (listed c.terms) i ≡ name public j = e ∙ ap (λ z. name z j) q in place j f (place_of (view_of c).terms (mate (name public j))) refl
      go (built f a b) e q = absurd q
      go (mate k) e q = absurd q

  pub mates_known : (fresh : List Bool) → MatesKnown (listed c.terms) fresh
  mates_known fresh i l e = mate_known i l
