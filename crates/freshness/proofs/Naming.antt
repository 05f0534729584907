-- Names that occur in listed terms, and names that stand within numbers.
use Rattle.std.proofs.Common.{◌≡◌, ℕ, ◌<◌, ◌≤◌, Bool, true, false, not, ◌&&◌, ◌⊎◌, List, [], ◌∷◌, length, get_or, Decides, sym, refl, ap, ◌∙◌, subst, ap₂, inl, inr, arith}
use Rattle.std.proofs.lemmas.Bool.{and_right, cases_lt, eqb-true, eq-eqb, false≢true}
use Rattle.std.proofs.lemmas.Bool.Decides.{same_from_decides, Decides-like, Decides-or}
use Rattle.deduction.specs.Term.{Kind, Term, name, built, mate, In, Occurs}
use Rattle.rules.specs.State.{State, occurs, used, fresh_kind, is_fresh}
use Rattle.rules.proofs.Used.{occurs_decides}
use Rattle.terms.specs.declared.node.Kind.{Kind as NodeKind}
use Rattle.terms.specs.declared.node.Kind.TheVariants.{Party, Number, Shared, Public, Table, Function}
use Rattle.terms.specs.declared.node.TermNode.{TermNode}
use Rattle.terms.specs.declared.node.TermNode.TheVariants.{Name, Built, Mate}
use Rattle.terms.specs.Node.{node_at}
use Rattle.terms.specs.Tree.{tree, kind_of, Orderly}
use Rattle.terms.specs.Held.{held_terms, Within}
use Rattle.terms.proofs.Composed.{held_number, number_held}
use Rattle.terms.proofs.Trees.{tree_at}
use Rattle.terms.proofs.Within.{occurs_within}
use Rattle.freshness.specs.Marks.{Only}
use Rattle.freshness.specs.Occurring.{StandsIn, Occurring}
use Rattle.freshness.specs.Fresh.{can_kind_be_fresh, can_be_fresh, occurs_in, fresh_by, FreshAmong, FreshNames}

-- a name that stands within a term occurs in it
pub within_occurs : (k : Kind) (i : ℕ) (t : Term) → Within (name k i) t → Occurs k i t
within_occurs k i (name j m) e = (cc, cc)
within_occurs k i (built f a b) (inl e) = let z : ◌≡◌ {A = ℕ} 0 1 = cc in absurd (omega arith)
within_occurs k i (built f a b) (inr (inl w)) = inl (within_occurs k i a w)
within_occurs k i (built f a b) (inr (inr w)) = inr (within_occurs k i b w)
within_occurs k i (mate e) (inl q) = let z : ◌≡◌ {A = ℕ} 0 1 = cc in absurd (omega arith)
within_occurs k i (mate e) (inr w) = within_occurs k i e w

-- the name occurs in some term of the list
abbrev pub OccursAmong : Kind → ℕ → List Term → Type 0
OccursAmong k i us = (u : Term) × In u us × Occurs k i u

pub occurs_in_decides : (k : Kind) (i : ℕ) (us : List Term) → Decides (occurs_in k i us) (OccursAmong k i us)
occurs_in_decides k i [] = (λ e. absurd (false≢true e), λ w. absurd w.1)
occurs_in_decides k i (t ∷ ts) =
    Decides-like (occurs_in k i (t ∷ ts)) to from
    (Decides-or (occurs k i t) (occurs_in k i ts) (occurs_decides k i t) (occurs_in_decides k i ts))
  where
    to : Occurs k i t ⊎ OccursAmong k i ts → OccursAmong k i (t ∷ ts)
    to (inl o) = (t, inl refl, o)
    to (inr (u, h, o)) = (u, inr h, o)

    from : OccursAmong k i (t ∷ ts) → Occurs k i t ⊎ OccursAmong k i ts
    from (u, inl e, o) = inl (subst (Occurs k i) (sym e) o)
    from (u, inr h, o) = inr (u, h, o)

-- the name occurs in the tree of a marked number
abbrev pub OccursMarked : List TermNode → List Bool → Kind → ℕ → Type 0
OccursMarked ts marks k i = (t : ℕ) × (t < length ts) × (get_or marks t false ≡ true) × Occurs k i (tree ts t)

pub marked_decides : (ts : List TermNode) (marks : List Bool) (k : Kind) (i : ℕ) → Decides (occurs_in k i (held_terms ts marks)) (OccursMarked ts marks k i)
marked_decides ts marks k i = Decides-like (occurs_in k i (held_terms ts marks)) to from (occurs_in_decides k i (held_terms ts marks))
  where
    to : OccursAmong k i (held_terms ts marks) → OccursMarked ts marks k i
    to (u, h, o) = let w = held_number ts marks u h in (w.0, w.1, w.2, subst (Occurs k i) (sym w.3) o)

    from : OccursMarked ts marks k i → OccursAmong k i (held_terms ts marks)
    from (t, l, e, o) = (tree ts t, number_held ts marks t l e, o)

kinds_agree : (k : NodeKind) → can_kind_be_fresh k ≡ fresh_kind (kind_of k)
kinds_agree Party = refl
kinds_agree Number = refl
kinds_agree Shared = refl
kinds_agree Public = refl
kinds_agree Table = refl
kinds_agree Function = refl

module _ (ts : List TermNode) (ok : Orderly ts) where
  -- a name stands within marked numbers exactly if it occurs in their trees
  pub standing_name : (marks r : List Bool) → Occurring ts marks r → (i : ℕ) (k : NodeKind) (n : ℕ) → i < length ts → node_at ts i ≡ Name k n
      → get_or r i false ≡ occurs_in (kind_of k) n (held_terms ts marks)
  standing_name marks r occ i k n l e =
      same_from_decides (get_or r i false) (occurs_in (kind_of k) n (held_terms ts marks)) (occ.stands i l)
      (Decides-like (occurs_in (kind_of k) n (held_terms ts marks)) to from (marked_decides ts marks (kind_of k) n))
    where
      is : tree ts i ≡ name (kind_of k) n
      is = tree_at ts ok.lower i (Name k n) l e

      to : OccursMarked ts marks (kind_of k) n → StandsIn ts marks i
      to (t, lt, m, o) = (t, lt, m, subst (λ s. Within s (tree ts t)) (sym is) (occurs_within k n (tree ts t) o))

      from : StandsIn ts marks i → OccursMarked ts marks (kind_of k) n
      from (t, lt, m, w) = (t, lt, m, within_occurs (kind_of k) n (tree ts t) (subst (λ s. Within s (tree ts t)) is w))

  module _ (few : length ts ≤ 512) (m : ℕ) (alone : List Bool) (only : Only m alone) where
    -- of one marked number the trees are its tree
    only_occurs : m < length ts → (k : Kind) (i : ℕ) → occurs_in k i (held_terms ts alone) ≡ occurs k i (tree ts m)
    only_occurs lm k i =
        same_from_decides (occurs_in k i (held_terms ts alone)) (occurs k i (tree ts m)) (marked_decides ts alone k i)
        (Decides-like (occurs k i (tree ts m)) to from (occurs_decides k i (tree ts m)))
      where
        to : Occurs k i (tree ts m) → OccursMarked ts alone k i
        to o = (m, lm, only.marks m (omega arith) ∙ eq-eqb m m refl, o)

        from : OccursMarked ts alone k i → Occurs k i (tree ts m)
        from (t, lt, e, o) = subst (λ u. Occurs k i (tree ts u)) (sym (eqb-true m t (sym (only.marks t (omega arith)) ∙ e))) o

    module _ (shown sent used r : List Bool) (in-sent : Occurring ts alone sent) (in-used : Occurring ts shown used) (among : FreshAmong ts sent used r) where
      fresh_at : m < length ts → (i : ℕ) → i < length ts → get_or r i false ≡ fresh_by (held_terms ts shown) (tree ts m) (tree ts i)
      fresh_at lm i l = go (node_at ts i) refl
        where
          go : (x : TermNode) → node_at ts i ≡ x → get_or r i false ≡ fresh_by (held_terms ts shown) (tree ts m) (tree ts i)
          go (Name k n) e =
              let is = tree_at ts ok.lower i (Name k n) l e in
              let es = standing_name alone sent in-sent i k n l e ∙ only_occurs lm (kind_of k) n in
              let eu = standing_name shown used in-used i k n l e in
              among.fresh i l
              ∙ ap₂ (λ a b. a && (b && not (get_or used i false))) (ap can_be_fresh e ∙ kinds_agree k) es
              ∙ ap (λ b. fresh_kind (kind_of k) && (occurs (kind_of k) n (tree ts m) && not b)) eu
              ∙ ap (fresh_by (held_terms ts shown) (tree ts m)) (sym is)
          go (Built f a b) e =
              among.fresh i l
              ∙ ap (λ x. can_be_fresh x && (get_or sent i false && not (get_or used i false))) e
              ∙ ap (fresh_by (held_terms ts shown) (tree ts m)) (sym (tree_at ts ok.lower i (Built f a b) l e))
          go (Mate a) e =
              among.fresh i l
              ∙ ap (λ x. can_be_fresh x && (get_or sent i false && not (get_or used i false))) e
              ∙ ap (fresh_by (held_terms ts shown) (tree ts m)) (sym (tree_at ts ok.lower i (Mate a) l e))

      -- nothing stands within what is no term
      unsent : length ts ≤ m → (i : ℕ) → i < length ts → (b : Bool) → get_or sent i false ≡ b → b ≡ false
      unsent h i l false e = refl
      unsent h i l true e =
          let w = (in-sent.stands i l).0 e in
          let lt = w.1 in
          let s = eqb-true m w.0 (sym (only.marks w.0 (omega arith)) ∙ w.2) in
          absurd (omega arith)

      none_fresh : length ts ≤ m → (i : ℕ) → (i < length ts) ⊎ (length ts ≤ i) → get_or r i false ≡ false
      none_fresh h i (inl l) =
          among.fresh i l
          ∙ and_right (can_be_fresh (node_at ts i)) (get_or sent i false && not (get_or used i false))
          (ap (λ b. b && not (get_or used i false)) (unsent h i l (get_or sent i false) refl))
      none_fresh h i (inr l) = among.past i l

      -- what is fresh among what is sent and used is fresh in the message
      pub fresh_names_lem : FreshNames ts shown m r
      fresh_names_lem = record {
        fresh = fresh_at;
        unknown = λ h i. none_fresh h i (cases_lt i (length ts));
        past = among.past;
        size = among.size;
      }

-- where the listed terms have the used names, fresh is what the rules call fresh
pub fresh_by_rules : (st : State) (shown : List Term) → ((k : Kind) (i : ℕ) → occurs_in k i shown ≡ used st k i)
    → (m t : Term) → fresh_by shown m t ≡ is_fresh st m t
fresh_by_rules st shown same m (name k i) = ap (λ b. fresh_kind k && (occurs k i m && not b)) (same k i)
fresh_by_rules st shown same m (built f a b) = refl
fresh_by_rules st shown same m (mate k) = refl
