-- A record at the end: the trees of the numbers before it stay, and the records stay in order.
use Rattle.std.proofs.Common.{◌≡◌, ℕ, zero, suc, ◌+◌, ◌<◌, ◌≤◌, true, ◌⊎◌, List, [], ◌∷◌, ◌++◌, length, sym, refl, ap, ◌∙◌, subst, ap₂, inl, inr, arith}
use Rattle.std.proofs.lemmas.Bool.{cases_lt}
use Rattle.std.proofs.lemmas.List.{length_push, get_or_push, get_or_append_left}
use Rattle.terms.specs.declared.node.Kind.TheVariants.{Party}
use Rattle.terms.specs.declared.node.TermNode.{TermNode}
use Rattle.terms.specs.declared.node.TermNode.TheVariants.{Name, Built, Mate}
use Rattle.terms.specs.Node.{node_at, PartsBelow, parts_fit, is_asymmetric, fits, Lower}
use Rattle.terms.specs.Tree.{tree_of, tree_up_to, tree, Orderly}
use Rattle.terms.specs.Outcome.{Absent}
use Rattle.terms.proofs.Trees.{tree_agree, tree_is}

pub at_append : (ts more : List TermNode) (i : ℕ) → i < length ts → node_at (ts ++ more) i ≡ node_at ts i
at_append ts more i l = get_or_append_left ts more (Name Party 0) i l

up_append : (ts more : List TermNode) → Lower ts → (n i : ℕ) → i < length ts → tree_up_to (ts ++ more) n i ≡ tree_up_to ts n i
up_append ts more low zero i l = refl
up_append ts more low (suc n) i l =
    ap (λ r. tree_of r (λ j. tree_up_to (ts ++ more) n j)) (at_append ts more i l)
    ∙ tree_agree i (node_at ts i) (λ j. tree_up_to (ts ++ more) n j) (λ j. tree_up_to ts n j) (low i l) (λ j m. up_append ts more low n j (omega arith))

-- more records leave the trees of the numbers before them
pub tree_append : (ts more : List TermNode) → Lower ts → (i : ℕ) → i < length ts → tree (ts ++ more) i ≡ tree ts i
unfolding tree
tree_append ts more low i l = up_append ts more low (suc i) i l

-- whether a record fits lies in the records of its parts alone
fits_agree : (n : ℕ) (r : TermNode) (ts us : List TermNode) → PartsBelow n r → ((j : ℕ) → j < n → node_at us j ≡ node_at ts j) → fits us r ≡ fits ts r
fits_agree n (Name k i) ts us low e = refl
fits_agree n (Built f a b) ts us low e =
    let la : a + 1 ≤ n = low.0 in
    let lb : b + 1 ≤ n = low.1 in
    ap₂ (parts_fit f) (e a (omega arith)) (e b (omega arith))
fits_agree n (Mate a) ts us low e = let la : a + 1 ≤ n = low.0 in ap is_asymmetric (e a (omega arith))

module _ (ts : List TermNode) (r : TermNode) (ok : Orderly ts) (low : PartsBelow (length ts) r) (fit : fits ts r ≡ true) (new : Absent ts r) where
  abbrev us : List TermNode
  us = ts ++ r ∷ []

  -- a number of the longer list is one of before, or the new one
  where_is : (i : ℕ) → i < length us → ((i < length ts) × (node_at us i ≡ node_at ts i)) ⊎ ((i ≡ length ts) × (node_at us i ≡ r))
  where_is i l = go (cases_lt i (length ts))
    where
      go : (i < length ts) ⊎ (length ts ≤ i) → ((i < length ts) × (node_at us i ≡ node_at ts i)) ⊎ ((i ≡ length ts) × (node_at us i ≡ r))
      go (inl q) = inl (q, at_append ts (r ∷ []) i q)
      go (inr q) = let e : length ts ≡ i = omega (arith, length_push ts r) in inr (sym e, get_or_push ts r (Name Party 0) i e)

  lower_push : (i : ℕ) → i < length us → PartsBelow i (node_at us i)
  lower_push i l = go (where_is i l)
    where
      go : ((i < length ts) × (node_at us i ≡ node_at ts i)) ⊎ ((i ≡ length ts) × (node_at us i ≡ r)) → PartsBelow i (node_at us i)
      go (inl w) = subst (PartsBelow i) (sym w.1) (ok.lower i w.0)
      go (inr w) = subst (PartsBelow i) (sym w.1) (subst (λ n. PartsBelow n r) (sym w.0) low)

  fits_old : (n : ℕ) (s : TermNode) → n ≤ length ts → PartsBelow n s → fits ts s ≡ true → fits us s ≡ true
  fits_old n s l below e = fits_agree n s ts us below (λ j m. at_append ts (r ∷ []) j (omega arith)) ∙ e

  fitting_push : (i : ℕ) → i < length us → fits us (node_at us i) ≡ true
  fitting_push i l = go (where_is i l)
    where
      go : ((i < length ts) × (node_at us i ≡ node_at ts i)) ⊎ ((i ≡ length ts) × (node_at us i ≡ r)) → fits us (node_at us i) ≡ true
      go (inl w) = ap (fits us) w.1 ∙ fits_old i (node_at ts i) (omega arith) (ok.lower i w.0) (ok.fitting i w.0)
      go (inr w) = ap (fits us) w.1 ∙ fits_old (length ts) r (omega arith) low fit

  once_push : (i j : ℕ) → i < j → j < length us → node_at us i ≡ node_at us j → ⊥
  once_push i j ij l e = go (where_is j l)
    where
      go : ((j < length ts) × (node_at us j ≡ node_at ts j)) ⊎ ((j ≡ length ts) × (node_at us j ≡ r)) → ⊥
      go (inl w) = let il : i < length ts = omega (arith, w.0) in ok.once i j ij w.0 (sym (at_append ts (r ∷ []) i il) ∙ (e ∙ w.1))
      go (inr w) = let il : i < length ts = omega (arith, w.0) in new i il (sym (at_append ts (r ∷ []) i il) ∙ (e ∙ w.1))

  -- a record that may be added leaves the records in order
  pub orderly_push : Orderly us
  orderly_push = record { lower = lower_push; fitting = fitting_push; once = once_push }

  -- the new number stands for the record's tree
  pub new_tree : tree us (length ts) ≡ tree_of r (tree ts)
  new_tree =
      let n : ℕ = length ts in
      let l : n < length us = omega (arith, length_push ts r) in
      tree_is us lower_push n l
      ∙ (ap (λ s. tree_of s (tree us)) (get_or_push ts r (Name Party 0) n refl)
      ∙ tree_agree n r (tree us) (tree ts) low (λ j m. tree_append ts (r ∷ []) ok.lower j m))
