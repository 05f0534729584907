-- Fresh names, each a line, a public key with its mate.
use Rattle.std.proofs.Common.{◌≡◌, ℕ, zero, suc, ◌+◌, ◌-◌, ◌<◌, ◌≤◌, Bool, true, false, cond, ◌⊎◌, List, [], ◌∷◌, length, get_or, Some, None, Ok, Err, Option, Result, sym, refl, ap, ◌∙◌, subst, ap₂, inl, inr, arith, length-append}
use Rattle.deduction.specs.Term.{party, number, shared, public, table, function, KeyKind, Key, mate_of_name, opener, Term, name, built, mate, Named}
use Rattle.terms.specs.declared.node.TermNode.{TermNode}
use Rattle.terms.specs.declared.node.TermNode.TheVariants.{Name, Built, Mate}
use Rattle.terms.specs.declared.node.Kind.{Kind}
use Rattle.terms.specs.declared.node.Kind.TheVariants.{Party, Number, Shared, Public, Table, Function}
use Rattle.terms.specs.Node.{node_at}
use Rattle.terms.specs.Outcome.{Opens}
use Rattle.terms.specs.Tree.{tree, kind_of, Orderly}
use Rattle.terms.proofs.Trees.{tree_at}
use Rattle.rules.specs.Script.{FRESH, MATE, Script as RuleScript, line, ◌then◌}
use Rattle.rules.specs.Effects.{fresh_mate, freshen, freshens}
use Rattle.scripts.specs.declared.instruction.Instruction.TheVariants.{Fresh, Mate as A-MATE}
use Rattle.scripts.specs.declared.instruction.ScriptError.{ScriptError}
use Rattle.scripts.specs.declared.instruction.ScriptError.TheVariants.{Full, Missing}
use Rattle.scripts.specs.declared.script.Script.{Script}
use Rattle.scripts.specs.Composing.{view, AllNamed}
use Rattle.scripts.specs.View.{written, Pushed}
use Rattle.scripts.specs.Writing.{Writes}
use Rattle.scripts.proofs.View.{length_view}
use Rattle.scripts.proofs.Writing.{pushed_writes}
use Rattle.effects.specs.Sending.{marked_from, MateKnown, PublicMate, is_public}

-- a public key, or none
pub public_or_not : (t : Term) → Named public t ⊎ (Named public t → ⊥)
public_or_not (name party i) = inr (λ e. let z : ◌≡◌ {A = ℕ} 0 1 = cc in omega arith)
public_or_not (name number i) = inr (λ e. let z : ◌≡◌ {A = ℕ} 0 1 = cc in omega arith)
public_or_not (name shared i) = inr (λ e. let z : ◌≡◌ {A = ℕ} 0 1 = cc in omega arith)
public_or_not (name public i) = inl refl
public_or_not (name table i) = inr (λ e. let z : ◌≡◌ {A = ℕ} 0 1 = cc in omega arith)
public_or_not (name function i) = inr (λ e. let z : ◌≡◌ {A = ℕ} 0 1 = cc in omega arith)
public_or_not (built f a b) = inr (λ e. e)
public_or_not (mate k) = inr (λ e. e)

pub freshen_public : (v : RuleScript) (t : Term) → Named public t → freshen v t ≡ ((v then line (FRESH t) (Some t)) then line (MATE (length v)) (Some (mate t)))
freshen_public v (name k i) e = ap (fresh_mate v (name k i)) e
freshen_public v (built f a b) e = absurd e
freshen_public v (mate k) e = absurd e

pub freshen_plain : (v : RuleScript) (t : Term) → (Named public t → ⊥) → freshen v t ≡ (v then line (FRESH t) (Some t))
freshen_plain v (name party i) n = refl
freshen_plain v (name number i) n = refl
freshen_plain v (name shared i) n = refl
freshen_plain v (name public i) n = absurd (n refl)
freshen_plain v (name table i) n = refl
freshen_plain v (name function i) n = refl
freshen_plain v (built f a b) n = refl
freshen_plain v (mate k) n = refl

-- scripts only grow
pub freshen_longer : (v : RuleScript) (t : Term) → length (v then line (FRESH t) (Some t)) ≤ length (freshen v t)
freshen_longer v t = go (public_or_not t)
  where
    go : Named public t ⊎ (Named public t → ⊥) → length (v then line (FRESH t) (Some t)) ≤ length (freshen v t)
    go (inl p) =
        omega (arith, ap length (freshen_public v t p), length-append (v then line (FRESH t) (Some t)) (line (MATE (length v)) (Some (mate t)) ∷ []))
    go (inr n) = omega (arith, ap length (freshen_plain v t n))

pub freshens_longer : (ts : List Term) (v : RuleScript) → length v ≤ length (freshens v ts)
freshens_longer [] v = omega arith
freshens_longer (t ∷ ts) v =
    omega (arith, freshens_longer ts (freshen v t), freshen_longer v t, length-append v (line (FRESH t) (Some t) ∷ []))

-- the mate of a public key
public_named : (ts : List TermNode) (ok : Orderly ts) (i : ℕ) → i < length ts → is_public (node_at ts i) ≡ true → Named public (tree ts i)
public_named ts ok i l e = go (node_at ts i) refl e
  where
    go : (r : TermNode) → node_at ts i ≡ r → is_public r ≡ true → Named public (tree ts i)
    go (Name Party j) q p = let z : ◌≡◌ {A = ℕ} 0 1 = cc in absurd (omega arith)
    go (Name Number j) q p = let z : ◌≡◌ {A = ℕ} 0 1 = cc in absurd (omega arith)
    go (Name Shared j) q p = let z : ◌≡◌ {A = ℕ} 0 1 = cc in absurd (omega arith)
    go (Name Public j) q p = subst (Named public) (sym (tree_at ts ok.lower i (Name Public j) l q)) refl
    go (Name Table j) q p = let z : ◌≡◌ {A = ℕ} 0 1 = cc in absurd (omega arith)
    go (Name Function j) q p = let z : ◌≡◌ {A = ℕ} 0 1 = cc in absurd (omega arith)
    go (Built f a b) q p = let z : ◌≡◌ {A = ℕ} 0 1 = cc in absurd (omega arith)
    go (Mate a) q p = let z : ◌≡◌ {A = ℕ} 0 1 = cc in absurd (omega arith)

named_public : (ts : List TermNode) (ok : Orderly ts) (i : ℕ) → i < length ts → Named public (tree ts i) → is_public (node_at ts i) ≡ true
named_public ts ok i l n = go (node_at ts i) refl
  where
    kind : (k : Kind) → kind_of k ≡ public → is_public (Name k 0) ≡ true
    kind Party e = let z : ◌≡◌ {A = ℕ} 0 1 = cc in absurd (omega arith)
    kind Number e = let z : ◌≡◌ {A = ℕ} 0 1 = cc in absurd (omega arith)
    kind Shared e = let z : ◌≡◌ {A = ℕ} 0 1 = cc in absurd (omega arith)
    kind Public e = refl
    kind Table e = let z : ◌≡◌ {A = ℕ} 0 1 = cc in absurd (omega arith)
    kind Function e = let z : ◌≡◌ {A = ℕ} 0 1 = cc in absurd (omega arith)

    go : (r : TermNode) → node_at ts i ≡ r → is_public r ≡ true
    go (Name k j) q = kind k (subst (Named public) (tree_at ts ok.lower i (Name k j) l q) n)
    go (Built f a b) q = absurd (subst (Named public) (tree_at ts ok.lower i (Built f a b) l q) n)
    go (Mate a) q = absurd (subst (Named public) (tree_at ts ok.lower i (Mate a) l q) n)

-- a public key is opened by its mate
public_opens : (t : Term) → Named public t → Key t × (opener t ≡ mate t)
public_opens (name k i) e = (subst KeyKind (sym e) tt, ap (λ j. mate_of_name j i) e ∙ ap (λ j. mate (name j i)) (sym e))
public_opens (built f a b) e = absurd e
public_opens (mate k) e = absurd e

module _ (ts : List TermNode) (ok : Orderly ts) (i : ℕ) (l : i < length ts) where
  pub public_opener : is_public (node_at ts i) ≡ true → (r : Option ℕ) → Opens ts i r → PublicMate ts i r
  public_opener e None p = λ h n o lo eo. let w = public_opens (tree ts i) n in p h w.0 o lo (eo ∙ sym w.1)
  public_opener e (Some o) p =
      let n = public_named ts ok i l e in
      let w = public_opens (tree ts i) n in
      (l, n, p.2, p.3 ∙ w.1)

  pub private_none : is_public (node_at ts i) ≡ false → PublicMate ts i None
  private_none e = λ h n o lo eo. let q = named_public ts ok i l n in let z : ◌≡◌ {A = ℕ} 0 1 = cc in omega arith

-- one fresh name
module _ (ts : List TermNode) (s s1 : Script) (i : ℕ) (li : i < length ts) (known : AllNamed (length ts) (written s)) where
  pub fresh_stop : (e : ScriptError) → Pushed s (record { op = Fresh i; holds = Some i }) (Err e) s1 → Writes {A = Unit {0}} ts (freshen (view ts s) (tree ts i)) (Err e) s1
  fresh_stop Full p =
      let w : 512 < length (view ts s then line (FRESH (tree ts i)) (Some (tree ts i))) =
      pushed_writes ts s s1 (record { op = Fresh i; holds = Some i }) (Err Full) p known (li, li) in
      omega (arith, w, freshen_longer (view ts s) (tree ts i))
  fresh_stop (Missing m) p = absurd p

  module _ (n : ℕ) (p : Pushed s (record { op = Fresh i; holds = Some i }) (Ok n) s1) where
    -- a name that is no public key
    pub fresh_alone : PublicMate ts i None → MateKnown ts i → Writes {A = Unit {0}} ts (freshen (view ts s) (tree ts i)) (Ok tt) s1
    fresh_alone m k =
        let w = pushed_writes ts s s1 (record { op = Fresh i; holds = Some i }) (Ok n) p known (li, li) in
        let plain : Named public (tree ts i) → ⊥ = λ q. let x = k q in m li q x.0 x.1 x.2 in
        (w.0 ∙ sym (freshen_plain (view ts s) (tree ts i) plain), w.1)

    -- a public key with its mate
    pub fresh_mated : (o : ℕ) → PublicMate ts i (Some o) → (r : Result ℕ ScriptError) (s2 : Script) → Pushed s1 (record { op = A-MATE n; holds = Some o }) r s2
        → Writes ts (freshen (view ts s) (tree ts i)) r s2
    fresh_mated o m r s2 q =
        let w = pushed_writes ts s s1 (record { op = Fresh i; holds = Some i }) (Ok n) p known (li, li) in
        let x = pushed_writes ts s1 s2 (record { op = A-MATE n; holds = Some o }) r q w.1 (m.2, tt) in
        let at : n ≡ length (view ts s) = p.0 ∙ sym (length_view (tree ts) (written s)) in
        let same : (view ts s1 then line (MATE n) (Some (tree ts o))) ≡ freshen (view ts s) (tree ts i) =
        ap (λ v. v then line (MATE n) (Some (tree ts o))) w.0
        ∙ ap₂ (λ j t. (view ts s then line (FRESH (tree ts i)) (Some (tree ts i))) then line (MATE j) (Some t)) at m.3
        ∙ sym (freshen_public (view ts s) (tree ts i) m.1) in
        subst (λ v. Writes ts v r s2) same x

-- the next number, marked or not
module _ (ts : List TermNode) (fresh : List Bool) (i : ℕ) (li : i < length ts) where
  left : length ts - i ≡ suc (length ts - (i + 1))
  left = omega arith

  next : marked_from ts fresh i (length ts - i) ≡ cond (get_or fresh i false) (tree ts i ∷ marked_from ts fresh (i + 1) (length ts - (i + 1))) (marked_from ts fresh (i + 1) (length ts - (i + 1)))
  next = ap (marked_from ts fresh i) left

  next_marked : get_or fresh i false ≡ true → marked_from ts fresh i (length ts - i) ≡ (tree ts i ∷ marked_from ts fresh (i + 1) (length ts - (i + 1)))
  next_marked e = next ∙ ap (λ b. cond b (tree ts i ∷ marked_from ts fresh (i + 1) (length ts - (i + 1))) (marked_from ts fresh (i + 1) (length ts - (i + 1)))) e

  next_unmarked : get_or fresh i false ≡ false → marked_from ts fresh i (length ts - i) ≡ marked_from ts fresh (i + 1) (length ts - (i + 1))
  next_unmarked e = next ∙ ap (λ b. cond b (tree ts i ∷ marked_from ts fresh (i + 1) (length ts - (i + 1))) (marked_from ts fresh (i + 1) (length ts - (i + 1)))) e

  -- whatever is to come after the script so far
  module _ (w : RuleScript) (s : Script) (so_far : w ≡ freshens (view ts s) (marked_from ts fresh i (length ts - i))) where
    pub freshened : (s1 : Script) → get_or fresh i false ≡ true → view ts s1 ≡ freshen (view ts s) (tree ts i)
        → w ≡ freshens (view ts s1) (marked_from ts fresh (i + 1) (length ts - (i + 1)))
    freshened s1 e v =
        so_far ∙ ap (freshens (view ts s)) (next_marked e) ∙ ap (λ x. freshens x (marked_from ts fresh (i + 1) (length ts - (i + 1)))) (sym v)

    pub passed : get_or fresh i false ≡ false → w ≡ freshens (view ts s) (marked_from ts fresh (i + 1) (length ts - (i + 1)))
    passed e = so_far ∙ ap (freshens (view ts s)) (next_unmarked e)

    pub freshened_stop : (s1 : Script) (x : ScriptError) → get_or fresh i false ≡ true → Writes {A = Unit {0}} ts (freshen (view ts s) (tree ts i)) (Err x) s1
        → Writes {A = Unit {0}} ts w (Err x) s1
    freshened_stop s1 Full e p =
        let rest : List Term = marked_from ts fresh (i + 1) (length ts - (i + 1)) in
        omega (arith, p, ap length (so_far ∙ ap (freshens (view ts s)) (next_marked e)), freshens_longer rest (freshen (view ts s) (tree ts i)))
    freshened_stop s1 (Missing m) e p = absurd p

pub freshen_start : (ts : List TermNode) (fresh : List Bool) (s : Script)
    → freshens (view ts s) (marked_from ts fresh 0 (length ts)) ≡ freshens (view ts s) (marked_from ts fresh 0 (length ts - 0))
freshen_start ts fresh s = let e : length ts ≡ length ts - 0 = omega arith in ap (λ n. freshens (view ts s) (marked_from ts fresh 0 n)) e

pub freshen_end : (ts : List TermNode) (fresh : List Bool) (i : ℕ) (w : RuleScript) (s : Script) → length ts ≤ i
    → w ≡ freshens (view ts s) (marked_from ts fresh i (length ts - i)) → view ts s ≡ w
freshen_end ts fresh i w s l so_far =
    let e : length ts - i ≡ zero = omega arith in
    sym (so_far ∙ ap (λ n. freshens (view ts s) (marked_from ts fresh i n)) e)
