-- What is held after the fresh names, and what a message then lacks.
use Rattle.std.proofs.Common.{◌≡◌, ℕ, zero, suc, ◌+◌, ◌<◌, ◌≤◌, Bool, true, false, cond, ◌||◌, ◌⊎◌, List, [], ◌∷◌, length, get_or, is_some, Some, None, Option, sym, refl, ap, ◌∙◌, subst, inl, inr, arith}
use mathlib.Core.Bool.{false≢true}
use Rattle.std.proofs.lemmas.Bool.{cases_eq, or_cases, or_left, or_right}
use Rattle.deduction.specs.Term.{public, Term, name, built, mate, Named, Formed, Asymmetric, In, among}
use Rattle.deduction.specs.Compose.{Composable}
use Rattle.deduction.proofs.Compose.{composable_map}
use Rattle.terms.specs.declared.node.TermNode.{TermNode}
use Rattle.terms.specs.declared.node.TermNode.TheVariants.{Name, Built, Mate}
use Rattle.terms.specs.Node.{node_at}
use Rattle.terms.specs.Tree.{tree, Orderly}
use Rattle.terms.specs.Held.{held_terms, FirstMissing, Misses}
use Rattle.terms.proofs.Composed.{held_number, number_held}
use Rattle.terms.proofs.Formed.{formed}
use Rattle.terms.proofs.Missing.{missing_composable}
use Rattle.terms.proofs.Trees.{tree_at, inside_lower, record_of}
use Rattle.rules.specs.Script.{FRESH, MATE, Script as RuleScript, line, ◌then◌, find, held}
use Rattle.rules.specs.Compose.{Composed, compose, missing, or_else}
use Rattle.rules.specs.Effects.{freshen, freshens}
use Rattle.rules.proofs.Compose.{composes_decides, missing_right, MissingRight}
use Rattle.rules.proofs.Find.{find_holds, holds_held, held_append, held_last, held_then}
use Rattle.scripts.specs.declared.script.Script.{Script}
use Rattle.scripts.specs.Composing.{view, AllKnown, AllNamed, HeldMarks}
use Rattle.scripts.specs.View.{written}
use Rattle.scripts.proofs.View.{named_known}
use Rattle.scripts.proofs.Lacking.{composable_composed, to_marks, from_marks}
use Rattle.effects.specs.Sending.{marked_from, marked_trees, NamesMarked, MatesKnown, is_mate_of, FreshMarked, LacksFresh}
use Rattle.effects.proofs.Freshening.{public_or_not, freshen_public, freshen_plain}

-- one fresh name: what was held, the name, and the mate of a public key
freshen_keeps : (v : RuleScript) (t u : Term) → In u (held v) → In u (held (freshen v t))
freshen_keeps v t u h = go (public_or_not t)
  where
    one : In u (held (v then line (FRESH t) (Some t)))
    one = held_append v (line (FRESH t) (Some t) ∷ []) u h

    go : Named public t ⊎ (Named public t → ⊥) → In u (held (freshen v t))
    go (inl p) = rw (freshen_public v t p) (held_append (v then line (FRESH t) (Some t)) (line (MATE (length v)) (Some (mate t)) ∷ []) u one)
    go (inr n) = rw (freshen_plain v t n) one

freshen_name : (v : RuleScript) (t : Term) → In t (held (freshen v t))
freshen_name v t = go (public_or_not t)
  where
    one : In t (held (v then line (FRESH t) (Some t)))
    one = held_last v (FRESH t) t

    go : Named public t ⊎ (Named public t → ⊥) → In t (held (freshen v t))
    go (inl p) = rw (freshen_public v t p) (held_append (v then line (FRESH t) (Some t)) (line (MATE (length v)) (Some (mate t)) ∷ []) t one)
    go (inr n) = rw (freshen_plain v t n) one

freshen_mate : (v : RuleScript) (t : Term) → Named public t → In (mate t) (held (freshen v t))
freshen_mate v t p = rw (freshen_public v t p) (held_last (v then line (FRESH t) (Some t)) (MATE (length v)) (mate t))

-- the term comes with the fresh name
abbrev With : Term → Term → Type 0
With t u = (t ≡ u) ⊎ (Named public t × (mate t ≡ u))

freshen_from : (v : RuleScript) (t u : Term) → In u (held (freshen v t)) → In u (held v) ⊎ With t u
freshen_from v t u h = go (public_or_not t)
  where
    one : In u (held (v then line (FRESH t) (Some t))) → In u (held v) ⊎ With t u
    one x = by (held_then v (line (FRESH t) (Some t)) u x)
      where
        by : In u (held v) ⊎ (Some t ≡ Some u) → In u (held v) ⊎ With t u
        by (inl y) = inl y
        by (inr e) = inr (inl (cc))

    two : Named public t → In u (held (v then line (FRESH t) (Some t))) ⊎ (Some (mate t) ≡ Some u) → In u (held v) ⊎ With t u
    two p (inl y) = one y
    two p (inr e) = inr (inr (p, (cc)))

    go : Named public t ⊎ (Named public t → ⊥) → In u (held v) ⊎ With t u
    go (inl p) =
        let x : In u (held ((v then line (FRESH t) (Some t)) then line (MATE (length v)) (Some (mate t)))) = rw (freshen_public v t p) at h in
        two p (held_then (v then line (FRESH t) (Some t)) (line (MATE (length v)) (Some (mate t))) u x)
    go (inr n) = let x : In u (held (v then line (FRESH t) (Some t))) = rw (freshen_plain v t n) at h in one x

-- all fresh names
freshens_keep : (ts : List Term) (v : RuleScript) (u : Term) → In u (held v) → In u (held (freshens v ts))
freshens_keep [] v u h = h
freshens_keep (t ∷ ts) v u h = freshens_keep ts (freshen v t) u (freshen_keeps v t u h)

freshens_name : (ts : List Term) (v : RuleScript) (u : Term) → In u ts → In u (held (freshens v ts))
freshens_name [] v u h = absurd h
freshens_name (t ∷ ts) v u (inl e) = freshens_keep ts (freshen v t) u (subst (λ x. In x (held (freshen v t))) e (freshen_name v t))
freshens_name (t ∷ ts) v u (inr h) = freshens_name ts (freshen v t) u h

freshens_mate : (ts : List Term) (v : RuleScript) (u : Term) → In u ts → Named public u → In (mate u) (held (freshens v ts))
freshens_mate [] v u h p = absurd h
freshens_mate (t ∷ ts) v u (inl e) p =
    freshens_keep ts (freshen v t) (mate u) (subst (λ x. In (mate x) (held (freshen v t))) e (freshen_mate v t (subst (Named public) (sym e) p)))
freshens_mate (t ∷ ts) v u (inr h) p = freshens_mate ts (freshen v t) u h p

freshens_from : (ts : List Term) (v : RuleScript) (u : Term) → In u (held (freshens v ts)) → In u (held v) ⊎ ((t : Term) × In t ts × With t u)
freshens_from [] v u h = inl h
freshens_from (t ∷ ts) v u h = go (freshens_from ts (freshen v t) u h)
  where
    first : In u (held v) ⊎ With t u → In u (held v) ⊎ ((x : Term) × In x (t ∷ ts) × With x u)
    first (inl y) = inl y
    first (inr w) = inr (t, inl refl, w)

    go : In u (held (freshen v t)) ⊎ ((x : Term) × In x ts × With x u) → In u (held v) ⊎ ((x : Term) × In x (t ∷ ts) × With x u)
    go (inl y) = first (freshen_from v t u y)
    go (inr (x, i, w)) = inr (x, inr i, w)

-- the trees of the marked numbers
module _ (ts : List TermNode) (marks : List Bool) where
  marked_in : (k n i : ℕ) → n ≤ i → i < n + k → get_or marks i false ≡ true → In (tree ts i) (marked_from ts marks n k)
  marked_in zero n i a b e = absurd (omega arith)
  marked_in (suc k) n i a b e = by (λ ne. marked_in k (n + 1) i (omega arith) (omega arith) e) (cases_eq n i)
    where
      more : (x : Bool) → In (tree ts i) (marked_from ts marks (n + 1) k) → In (tree ts i) (cond x (tree ts n ∷ marked_from ts marks (n + 1) k) (marked_from ts marks (n + 1) k))
      more true h = inr h
      more false h = h

      here : (x : Bool) → x ≡ true → n ≡ i → In (tree ts i) (cond x (tree ts n ∷ marked_from ts marks (n + 1) k) (marked_from ts marks (n + 1) k))
      here true q p = inl (ap (tree ts) p)
      here false q p = absurd (false≢true q)

      by : ((n ≡ i → ⊥) → In (tree ts i) (marked_from ts marks (n + 1) k)) → (n ≡ i) ⊎ (n ≡ i → ⊥) → In (tree ts i) (marked_from ts marks n (suc k))
      by rest (inl p) = here (get_or marks n false) (ap (λ m. get_or marks m false) p ∙ e) p
      by rest (inr ne) = more (get_or marks n false) (rest ne)

  marked_out : (k n : ℕ) (t : Term) → In t (marked_from ts marks n k) → (i : ℕ) × (i < n + k) × (get_or marks i false ≡ true) × (tree ts i ≡ t)
  marked_out zero n t h = absurd h
  marked_out (suc k) n t h =
      by (λ x. let w = marked_out k (n + 1) t x in let l = w.1 in (w.0, omega arith, w.2, w.3)) (get_or marks n false) refl h
    where
      by : (In t (marked_from ts marks (n + 1) k) → (i : ℕ) × (i < n + suc k) × (get_or marks i false ≡ true) × (tree ts i ≡ t))
          → (x : Bool) → get_or marks n false ≡ x → In t (cond x (tree ts n ∷ marked_from ts marks (n + 1) k) (marked_from ts marks (n + 1) k))
          → (i : ℕ) × (i < n + suc k) × (get_or marks i false ≡ true) × (tree ts i ≡ t)
      by rest true e (inl q) = (n, omega arith, e, q)
      by rest true e (inr x) = rest x
      by rest false e x = rest x

-- no slot holds what is not held
unheld_unfound : (v : RuleScript) (t : Term) → (In t (held v) → ⊥) → find v t ≡ None
unheld_unfound v t nh = by (find v t) refl
  where
    by : (o : Option ℕ) → find v t ≡ o → o ≡ None
    by None e = refl
    by (Some n) e = absurd (nh (holds_held v n t (find_holds v t n e)))

-- the missing term of the rules, where the same terms are held
module _ (v : RuleScript) (hs : List Term) (same : (u : Term) → In u (held v) → In u hs) (back : (u : Term) → In u hs → In u (held v)) where
  none_missing : (t : Term) → Composable hs t → missing v t ≡ None
  none_missing t c = by (missing v t) (missing_right v t)
    where
      by : (o : Option Term) → MissingRight v t o → o ≡ None
      by None m = refl
      by (Some u) m = absurd (m.0 (composable_map (among hs) (among (held v)) back t c))

  first_missing_lem : (t m : Term) → FirstMissing hs t m → missing v t ≡ Some m
  first_missing_lem (name k i) m f = rw (unheld_unfound v (name k i) (λ h. f.0 (same (name k i) h))) (ap Some (sym f.1))
  first_missing_lem (built g a b) m f =
      rw (unheld_unfound v (built g a b) (λ h. f.0 (same (built g a b) h))) (either f.1 (first_missing_lem a m) (first_missing_lem b m))
    where
      either : FirstMissing hs a m ⊎ (Composable hs a × FirstMissing hs b m) → (FirstMissing hs a m → missing v a ≡ Some m) → (FirstMissing hs b m → missing v b ≡ Some m)
          → or_else (missing v a) (missing v b) ≡ Some m
      either (inl p) fa fb = rw (fa p) refl
      either (inr p) fa fb = rw (none_missing a p.0) (fb p.1)
  first_missing_lem (mate k) m f = rw (unheld_unfound v (mate k) (λ h. f.0 (same (mate k) h))) (ap Some (sym f.1))

-- marks after the fresh names
module _ (ts : List TermNode) (ok : Orderly ts) (few : length ts ≤ 512) (s : Script) (known : AllNamed (length ts) (written s)) (before : List Bool) (marked : HeldMarks (written s) before)
    (fresh after : List Bool) (more : FreshMarked ts fresh before after) (names : NamesMarked ts fresh) (mates : MatesKnown ts fresh) where
  held_known : AllKnown (length ts) (written s)
  held_known = named_known (length ts) (written s) known

  is_marked_lem : (m : ℕ) → m < length ts → (get_or before m false || (get_or fresh m false || is_mate_of fresh (node_at ts m))) ≡ true → In (tree ts m) (held_terms ts after)
  is_marked_lem m l e = number_held ts after m l (more.marks m l ∙ e)

  to_after : (u : Term) → In u (held (freshens (view ts s) (marked_trees ts fresh))) → In u (held_terms ts after)
  to_after u h = go (freshens_from (marked_trees ts fresh) (view ts s) u h)
    where
      name_of : (t : Term) → In t (marked_trees ts fresh) → (i : ℕ) × (i < length ts) × (get_or fresh i false ≡ true) × (tree ts i ≡ t)
      name_of t x = let w = marked_out ts fresh (length ts) 0 t x in let l = w.1 in (w.0, omega arith, w.2, w.3)

      go : In u (held (view ts s)) ⊎ ((t : Term) × In t (marked_trees ts fresh) × With t u) → In u (held_terms ts after)
      go (inl x) =
          let w = held_number ts before u (to_marks ts ok few s held_known before marked u x) in
          subst (λ t. In t (held_terms ts after)) w.3 (is_marked_lem w.0 w.1 (or_left (get_or before w.0 false) (get_or fresh w.0 false || is_mate_of fresh (node_at ts w.0)) w.2))
      go (inr (t, x, inl e)) =
          let w = name_of t x in
          let b = or_left (get_or fresh w.0 false) (is_mate_of fresh (node_at ts w.0)) w.2 in
          subst (λ y. In y (held_terms ts after)) (w.3 ∙ e) (is_marked_lem w.0 w.1 (or_right (get_or before w.0 false) (get_or fresh w.0 false || is_mate_of fresh (node_at ts w.0)) b))
      go (inr (t, x, inr (p, e))) =
          let w = name_of t x in
          let l = w.1 in
          let q = mates w.0 w.1 w.2 (subst (Named public) (sym w.3) p) in
          let r = record_of ts ok (Mate w.0) q.0 (omega arith, omega arith) q.1 q.2 in
          let a = or_right (get_or fresh q.0 false) (is_mate_of fresh (node_at ts q.0)) (ap (is_mate_of fresh) r ∙ w.2) in
          let b = or_right (get_or before q.0 false) (get_or fresh q.0 false || is_mate_of fresh (node_at ts q.0)) a in
          subst (λ y. In y (held_terms ts after)) (q.2 ∙ ap mate w.3 ∙ e) (is_marked_lem q.0 q.1 b)

  -- the mate of a name is that of a public key
  mate_held : (m a : ℕ) → m < length ts → node_at ts m ≡ Mate a → get_or fresh a false ≡ true → In (tree ts m) (held (freshens (view ts s) (marked_trees ts fresh)))
  mate_held m a l e f =
      let la = inside_lower ts ok.lower m a l e in
      let lt : a < length ts = omega arith in
      let is = tree_at ts ok.lower m (Mate a) l e in
      let w = names a lt f in
      let form = subst Formed is (formed ts ok m l) in
      let named = tree_at ts ok.lower a (Name w.0 w.1) lt w.2 in
      let key = subst Asymmetric named form.1 in
      let mine = marked_in ts fresh (length ts) 0 a (omega arith) (omega arith) f in
      subst (λ t. In t (held (freshens (view ts s) (marked_trees ts fresh)))) (sym is)
      (freshens_mate (marked_trees ts fresh) (view ts s) (tree ts a) mine (subst (Named public) (sym named) key))

  from_after : (u : Term) → In u (held_terms ts after) → In u (held (freshens (view ts s) (marked_trees ts fresh)))
  from_after u h = let w = held_number ts after u h in subst (λ t. In t (held (freshens (view ts s) (marked_trees ts fresh)))) w.3 (at w.0 w.1 (sym (more.marks w.0 w.1) ∙ w.2))
    where
      at : (m : ℕ) → m < length ts → (get_or before m false || (get_or fresh m false || is_mate_of fresh (node_at ts m))) ≡ true → In (tree ts m) (held (freshens (view ts s) (marked_trees ts fresh)))
      at m l e = go (or_cases (get_or before m false) (get_or fresh m false || is_mate_of fresh (node_at ts m)) e)
        where
          by_node : (r : TermNode) → node_at ts m ≡ r → is_mate_of fresh r ≡ true → In (tree ts m) (held (freshens (view ts s) (marked_trees ts fresh)))
          by_node (Name k i) q f = absurd (false≢true f)
          by_node (Built g a b) q f = absurd (false≢true f)
          by_node (Mate a) q f = mate_held m a l q f

          new : (get_or fresh m false ≡ true) ⊎ (is_mate_of fresh (node_at ts m) ≡ true) → In (tree ts m) (held (freshens (view ts s) (marked_trees ts fresh)))
          new (inl f) = freshens_name (marked_trees ts fresh) (view ts s) (tree ts m) (marked_in ts fresh (length ts) 0 m (omega arith) (omega arith) f)
          new (inr f) = by_node (node_at ts m) refl f

          go : (get_or before m false ≡ true) ⊎ ((get_or fresh m false || is_mate_of fresh (node_at ts m)) ≡ true) → In (tree ts m) (held (freshens (view ts s) (marked_trees ts fresh)))
          go (inl b) = freshens_keep (marked_trees ts fresh) (view ts s) (tree ts m) (from_marks ts ok few s held_known before marked (tree ts m) (number_held ts before m l b))
          go (inr b) = new (or_cases (get_or fresh m false) (is_mate_of fresh (node_at ts m)) b)

  pub lacks_fresh : (t : ℕ) → t < length ts → (r : Option ℕ) → Misses ts after t r → LacksFresh ts (view ts s) (marked_trees ts fresh) (tree ts t) r
  lacks_fresh t l None m =
      composable_composed (freshens (view ts s) (marked_trees ts fresh)) (tree ts t)
      (composable_map (among (held_terms ts after)) (among (held (freshens (view ts s) (marked_trees ts fresh)))) from_after (tree ts t) (m l))
  lacks_fresh t l (Some x) m = (
    m.1,
    first_missing_lem (freshens (view ts s) (marked_trees ts fresh)) (held_terms ts after) to_after from_after (tree ts t) (tree ts x) m.2,
    nothing (compose (freshens (view ts s) (marked_trees ts fresh)) (tree ts t)) refl,
  )
    where
      nothing : (o : Option Composed) → compose (freshens (view ts s) (marked_trees ts fresh)) (tree ts t) ≡ o → o ≡ None
      nothing None e = refl
      nothing (Some c) e =
          let d = (composes_decides (freshens (view ts s) (marked_trees ts fresh)) (tree ts t)).0 (ap is_some e) in
          absurd (missing_composable (held_terms ts after) (tree ts t) (tree ts x) m.2
          (composable_map (among (held (freshens (view ts s) (marked_trees ts fresh)))) (among (held_terms ts after)) to_after (tree ts t) d))
