-- Composability of numbers and of their trees.
use Rattle.std.proofs.Common.{◌≡◌, ℕ, zero, suc, ◌<◌, Bool, true, false, cond, ◌⊎◌, ◌↔◌, List, ◌∷◌, length, get_or, Decides, sym, refl, ap, ◌∙◌, subst, inl, inr, not-suc-le-zero, arith}
use Rattle.std.proofs.lemmas.Bool.{cases_eq}
use Rattle.deduction.specs.Term.{Term, name, built, mate, In}
use Rattle.deduction.specs.Compose.{Composable}
use Rattle.terms.specs.declared.node.Kind.{Kind}
use Rattle.terms.specs.declared.node.Form.{Form}
use Rattle.terms.specs.declared.node.TermNode.{TermNode}
use Rattle.terms.specs.declared.node.TermNode.TheVariants.{Name, Built, Mate}
use Rattle.terms.specs.Node.{node_at}
use Rattle.terms.specs.Tree.{tree, kind_of, form_of, Orderly}
use Rattle.terms.specs.Held.{held_below, held_terms, ComposableId}
use Rattle.terms.proofs.Trees.{tree_at, numbers_apart}

-- a held term is composable
pub held_composable : (held : List Term) (t : Term) → In t held → Composable held t
held_composable held (name k i) h = h
held_composable held (built f a b) h = inl h
held_composable held (mate k) h = h

module _ (ts : List TermNode) (held : List Bool) where
  has_below : (n m : ℕ) → m < n → get_or held m false ≡ true → In (tree ts m) (held_below ts held n)
  has_below zero m l e = absurd (not-suc-le-zero l)
  has_below (suc n) m l e = go (get_or held n false) refl (cases_eq m n) (λ h. has_below n m h e)
    where
      go : (b : Bool) → get_or held n false ≡ b → (m ≡ n) ⊎ (m ≡ n → ⊥) → (m < n → In (tree ts m) (held_below ts held n))
          → In (tree ts m) (cond b (tree ts n ∷ held_below ts held n) (held_below ts held n))
      go true q (inl s) below = inl (ap (tree ts) (sym s))
      go true q (inr s) below = inr (below (omega arith))
      go false q (inl s) below = let z : ◌≡◌ {A = ℕ} 0 1 = cc in absurd (omega arith)
      go false q (inr s) below = below (omega arith)

  of_below : (n : ℕ) (t : Term) → In t (held_below ts held n) → (m : ℕ) × (m < n) × (get_or held m false ≡ true) × (tree ts m ≡ t)
  of_below zero t h = absurd h
  of_below (suc n) t h = go (get_or held n false) refl h (of_below n t)
    where
      more : (m : ℕ) × (m < n) × (get_or held m false ≡ true) × (tree ts m ≡ t) → (m : ℕ) × (m < suc n) × (get_or held m false ≡ true) × (tree ts m ≡ t)
      more (m, l, e, q) = (m, omega arith, e, q)

      go : (b : Bool) → get_or held n false ≡ b → In t (cond b (tree ts n ∷ held_below ts held n) (held_below ts held n))
          → (In t (held_below ts held n) → (m : ℕ) × (m < n) × (get_or held m false ≡ true) × (tree ts m ≡ t))
          → (m : ℕ) × (m < suc n) × (get_or held m false ≡ true) × (tree ts m ≡ t)
      go true q (inl s) below = (n, omega arith, q, s)
      go true q (inr s) below = more (below s)
      go false q s below = more (below s)

  -- a held term is the tree of a held number
  pub held_number : (t : Term) → In t (held_terms ts held) → (m : ℕ) × (m < length ts) × (get_or held m false ≡ true) × (tree ts m ≡ t)
  unfolding held_terms
  held_number t h = of_below (length ts) t h

  -- the tree of a held number is a held term
  pub number_held : (m : ℕ) → m < length ts → get_or held m false ≡ true → In (tree ts m) (held_terms ts held)
  unfolding held_terms
  number_held m l e = has_below (length ts) m l e

  module _ (ok : Orderly ts) where
    -- a number is held exactly if its tree is
    pub held_decides : (i : ℕ) → i < length ts → Decides (get_or held i false) (In (tree ts i) (held_terms ts held))
    held_decides i l = (
      number_held i l,
      λ h.
          let w = held_number (tree ts i) h in
          subst (λ n. get_or held n false ≡ true) (numbers_apart ts ok w.0 i w.1 l w.3) w.2,
    )

    composable_leaf : (i : ℕ) (t : Term) → i < length ts → tree ts i ≡ t → (Composable (held_terms ts held) t → In t (held_terms ts held))
        → ComposableId ts held i ↔ (get_or held i false ≡ true)
    composable_leaf i t l is only =
        let d = held_decides i l in (
          λ h. d.1 (subst (λ s. In s (held_terms ts held)) (sym is) (only (subst (Composable (held_terms ts held)) is h))),
          λ h. held_composable (held_terms ts held) (tree ts i) (d.0 h),
        )

    -- on numbers: a name or a mate is composable exactly if held, a two-part term exactly if held or if both parts are
    pub composable_name : (i : ℕ) (k : Kind) (n : ℕ) → i < length ts → node_at ts i ≡ Name k n → ComposableId ts held i ↔ (get_or held i false ≡ true)
    composable_name i k n l e = composable_leaf i (name (kind_of k) n) l (tree_at ts ok.lower i (Name k n) l e) (λ h. h)

    pub composable_mate : (i a : ℕ) → i < length ts → node_at ts i ≡ Mate a → ComposableId ts held i ↔ (get_or held i false ≡ true)
    composable_mate i a l e = composable_leaf i (mate (tree ts a)) l (tree_at ts ok.lower i (Mate a) l e) (λ h. h)

    pub composable_built : (i : ℕ) (f : Form) (a b : ℕ) → i < length ts → node_at ts i ≡ Built f a b
        → ComposableId ts held i ↔ ((get_or held i false ≡ true) ⊎ (ComposableId ts held a × ComposableId ts held b))
    composable_built i f a b l e = (λ h. forth (subst (Composable (held_terms ts held)) is h), back)
      where
        is : tree ts i ≡ built (form_of f) (tree ts a) (tree ts b)
        is = tree_at ts ok.lower i (Built f a b) l e

        forth : Composable (held_terms ts held) (built (form_of f) (tree ts a) (tree ts b))
            → (get_or held i false ≡ true) ⊎ (ComposableId ts held a × ComposableId ts held b)
        forth (inl h) = inl ((held_decides i l).1 (subst (λ t. In t (held_terms ts held)) (sym is) h))
        forth (inr h) = inr h

        back : (get_or held i false ≡ true) ⊎ (ComposableId ts held a × ComposableId ts held b) → ComposableId ts held i
        back (inl h) = held_composable (held_terms ts held) (tree ts i) ((held_decides i l).0 h)
        back (inr h) = subst (Composable (held_terms ts held)) (sym is) (inr h)

    -- a name or a mate that is not held is not composable
    pub judged_leaf : (i : ℕ) → get_or held i false ≡ false → ComposableId ts held i ↔ (get_or held i false ≡ true) → Decides false (ComposableId ts held i)
    judged_leaf i e way = (λ q. let z : ◌≡◌ {A = ℕ} 0 1 = cc in absurd (omega arith), λ h. sym e ∙ way.0 h)

    module _ (i : ℕ) (f : Form) (a b : ℕ) (l : i < length ts) (e : node_at ts i ≡ Built f a b) (none : get_or held i false ≡ false) where
      -- a two-part term that is not held is composable exactly if both parts are
      both_parts : ComposableId ts held i → ComposableId ts held a × ComposableId ts held b
      both_parts h = go ((composable_built i f a b l e).0 h)
        where
          go : (get_or held i false ≡ true) ⊎ (ComposableId ts held a × ComposableId ts held b) → ComposableId ts held a × ComposableId ts held b
          go (inl q) = let z : ◌≡◌ {A = ℕ} 0 1 = cc in absurd (omega arith)
          go (inr q) = q

      pub judged_left : (x : Bool) → x ≡ false → Decides x (ComposableId ts held a) → Decides x (ComposableId ts held i)
      judged_left x q d = (λ y. let z : ◌≡◌ {A = ℕ} 0 1 = cc in absurd (omega arith), λ h. d.1 (both_parts h).0)

      pub judged_right : (x y : Bool) → x ≡ true → Decides x (ComposableId ts held a) → Decides y (ComposableId ts held b) → Decides y (ComposableId ts held i)
      judged_right x y q da db = (λ w. (composable_built i f a b l e).1 (inr (da.0 q, db.0 w)), λ h. db.1 (both_parts h).1)
