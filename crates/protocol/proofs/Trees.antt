-- The trees of all numbers, in order.
use Rattle.std.proofs.Common.{◌≡◌, ℕ, zero, suc, ◌+◌, ◌<◌, ◌≤◌, List, length, Some, None, Option, sym, refl, ap, ◌∙◌, arith}
use Rattle.deduction.specs.Term.{Term, In}
use Rattle.terms.specs.declared.node.TermNode.{TermNode}
use Rattle.terms.specs.Tree.{tree, Orderly}
use Rattle.terms.proofs.Trees.{numbers_apart}
use Rattle.rules.specs.State.{nth, place_of}
use Rattle.rules.proofs.Nth.{nth_in, nth_below, in_nth, place_is, place_none, some_is}
use Rattle.protocol.specs.States.{trees_from, trees}

length_from : (ts : List TermNode) (n k : ℕ) → length (trees_from ts n k) ≡ k
length_from ts n zero = refl
length_from ts n (suc k) = ap suc (length_from ts (n + 1) k)

pub length_trees : (ts : List TermNode) → length (trees ts) ≡ length ts
unfolding trees
length_trees ts = length_from ts 0 (length ts)

nth_from : (ts : List TermNode) (n k i : ℕ) → i < k → nth (trees_from ts n k) i ≡ Some (tree ts (n + i))
nth_from ts n zero i l = absurd (omega arith)
nth_from ts n (suc k) zero l = ap (λ m. Some (tree ts m)) (omega arith)
nth_from ts n (suc k) (suc i) l = nth_from ts (n + 1) k i (omega arith) ∙ ap (λ m. Some (tree ts m)) (omega arith)

none_from : (ts : List TermNode) (n k i : ℕ) → k ≤ i → nth (trees_from ts n k) i ≡ None
none_from ts n zero i l = refl
none_from ts n (suc k) zero l = absurd (omega arith)
none_from ts n (suc k) (suc i) l = none_from ts (n + 1) k i (omega arith)

-- the tree of a number, and none past the last
pub nth_trees : (ts : List TermNode) (i : ℕ) → i < length ts → nth (trees ts) i ≡ Some (tree ts i)
unfolding trees
nth_trees ts i l = nth_from ts 0 (length ts) i l ∙ ap (λ m. Some (tree ts m)) (omega arith)

pub none_trees : (ts : List TermNode) (i : ℕ) → length ts ≤ i → nth (trees ts) i ≡ None
unfolding trees
none_trees ts i l = none_from ts 0 (length ts) i l

-- a tree of the list is that of a number
pub in_trees : (ts : List TermNode) (t : Term) → In t (trees ts) → (i : ℕ) × (i < length ts) × (tree ts i ≡ t)
in_trees ts t h =
    let w = in_nth (trees ts) t h in
    let l : w.0 < length ts = omega (arith, nth_below (trees ts) w.0 t w.1, length_trees ts) in
    (w.0, l, some_is (sym (nth_trees ts w.0 l) ∙ w.1))

pub trees_in : (ts : List TermNode) (i : ℕ) → i < length ts → In (tree ts i) (trees ts)
trees_in ts i l = nth_in (trees ts) i (tree ts i) (nth_trees ts i l)

-- a tree's place is its number
pub place_tree : (ts : List TermNode) → Orderly ts → (i : ℕ) → i < length ts → place_of (trees ts) (tree ts i) ≡ Some i
place_tree ts ok i l = go (place_of (trees ts) (tree ts i)) refl
  where
    go : (o : Option ℕ) → place_of (trees ts) (tree ts i) ≡ o → o ≡ Some i
    go None e = absurd (place_none (trees ts) (tree ts i) e (trees_in ts i l))
    go (Some n) e =
        let p = place_is (trees ts) (tree ts i) n e in
        let m : n < length ts = omega (arith, nth_below (trees ts) n (tree ts i) p, length_trees ts) in
        ap Some (numbers_apart ts ok n i m l (some_is (sym (nth_trees ts n m) ∙ p)))

pub no_place : (ts : List TermNode) (t : Term) → ((i : ℕ) → i < length ts → tree ts i ≡ t → ⊥) → place_of (trees ts) t ≡ None
no_place ts t none = go (place_of (trees ts) t) refl
  where
    go : (o : Option ℕ) → place_of (trees ts) t ≡ o → o ≡ None
    go None e = refl
    go (Some n) e =
        let p = place_is (trees ts) t n e in
        let m : n < length ts = omega (arith, nth_below (trees ts) n t p, length_trees ts) in
        absurd (none n m (some_is (sym (nth_trees ts n m) ∙ p)))
