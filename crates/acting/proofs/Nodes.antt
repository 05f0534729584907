-- Loading: the making of every term makes the value of its tree.
use Rattle.std.proofs.Common.{◌≡◌, ℕ, zero, suc, ◌+◌, ◌<◌, ◌≤◌, cond, ◌≢◌, ◌⊎◌, List, [], ◌∷◌, length, get_or, take, Some, None, Result, sym, refl, ap, ◌∙◌, subst, inl, inr, arith, length-take}
use Rattle.deduction.specs.Term.{Kind as TreeKind, built, Occurs}
use Rattle.provider.specs.declared.Making.TheVariants.{Mate as MATE-OF}
use Rattle.provider.specs.Algebra.{Algebra, last_id}
use Rattle.provider.specs.Meaning.{Meaning, stands, made, is_atom}
use Rattle.rules.specs.State.{nth}
use Rattle.rules.proofs.Nth.{some_is, nth_below, nth_at}
use Rattle.terms.specs.declared.node.Kind.{Kind}
use Rattle.terms.specs.declared.node.Kind.TheVariants.{Party, Number, Shared, Public, Table, Function}
use Rattle.terms.specs.declared.node.Form.{Form}
use Rattle.terms.specs.declared.node.Form.TheVariants.{Pair, Sealed, Digest, Entry}
use Rattle.terms.specs.declared.node.TermNode.{TermNode}
use Rattle.terms.specs.declared.node.TermNode.TheVariants.{Name, Built, Mate}
use Rattle.terms.specs.Node.{node_at, kind_number}
use Rattle.terms.specs.Tree.{kind_of, form_of, tree_of, tree, Orderly}
use Rattle.terms.proofs.Formed.{formed}
use Rattle.terms.proofs.Trees.{tree_at, parts_lower, inside_lower}
use Rattle.valuation.specs.Value.{code, value}
use Rattle.valuation.specs.Law.{Lawful}
use Rattle.valuation.proofs.Values.{formed_has_value}
use Rattle.acting.specs.declared.halt.Halt.{Halt}
use Rattle.acting.specs.Acts.{total}
use Rattle.acting.specs.Loading.{forming, node_act, one, itself, Loads}
use Rattle.acting.specs.Standing.{Loaded, NoRoom, OwnNumbers, LoadStands, KeptOutside, Bounded}
use Rattle.acting.proofs.Lines.{nth_take_back}
use Rattle.acting.proofs.Sound.{Sound, map_cases, acting_keeps, acting_counts, acting_stands}

kind_code : (k : Kind) → code (kind_of k) ≡ kind_number k
kind_code Party = refl
kind_code Number = refl
kind_code Shared = refl
kind_code Public = refl
kind_code Table = refl
kind_code Function = refl

-- the member of a number is the record of that number
nth_node : (ts : List TermNode) (i : ℕ) (r : TermNode) → nth ts i ≡ Some r → node_at ts i ≡ r
nth_node ts i r e = some_is (sym (nth_at ts i (Name Party 0) (nth_below ts i r e)) ∙ e)

node_nth : (ts : List TermNode) (i : ℕ) (r : TermNode) → i < length ts → node_at ts i ≡ r → nth ts i ≡ Some r
node_nth ts i r l e = nth_at ts i (Name Party 0) l ∙ ap Some e

module _ (ts : List TermNode) (ok : Orderly ts) (own : OwnNumbers ts) (few : length ts ≤ 512) where
  -- the names in a term have ids up to 65,535
  small_node : (i : ℕ) → i < length ts → (k : TreeKind) (j : ℕ) → ((c : ℕ) → c < i → Occurs k j (tree ts c) → j ≤ last_id) → (r : TermNode) → node_at ts i ≡ r → Occurs k j (tree_of r (tree ts)) → j ≤ last_id
  small_node i l k j below (Name kd n) e p = let q = own i kd n (node_nth ts i (Name kd n) l e) in omega (arith, p.1)
  small_node i l k j below (Built g c d) e (inl p) = below c (parts_lower ts ok.lower i g c d l e).0 p
  small_node i l k j below (Built g c d) e (inr p) = below d (parts_lower ts ok.lower i g c d l e).1 p
  small_node i l k j below (Mate c) e p = below c (inside_lower ts ok.lower i c l e) p

  small : (b i : ℕ) → i < b → i < length ts → (k : TreeKind) (j : ℕ) → Occurs k j (tree ts i) → j ≤ last_id
  small zero i u l k j o = absurd (omega arith)
  small (suc b) i u l k j o =
      small_node i l k j (λ c v. small b c (omega arith) (omega arith) k j) (node_at ts i) refl (subst (Occurs k j) (tree_at ts ok.lower i (node_at ts i) l refl) o)

  module _ {X : Type 0} {P : X → Type 0} {f : Algebra X} (law : Lawful P f) where
    has_value : (i : ℕ) → i < length ts → (x : X) × (value f (tree ts i) ≡ Some x)
    has_value i l = let v = formed_has_value law (tree ts i) (formed ts ok i l) (small (suc i) i (omega arith) l) in (v.0, v.1)

    module _ (is : List (ℕ × X)) (hs : List ℕ) (i : ℕ) (env : Loaded f is (tree ts) i hs) where
      same_value : (j : ℕ) → j < i → stands is (get_or hs j 0) ≡ value f (tree ts j)
      same_value j l = let w = env j l in w.1 ∙ sym w.2

      forms : (g : Form) (c d : ℕ) → c < i → d < i → made f is (forming g (get_or hs c 0) (get_or hs d 0)) ≡ value f (built (form_of g) (tree ts c) (tree ts d))
      forms Pair c d u v = rw (same_value c u, same_value d v) refl
      forms Sealed c d u v = rw (same_value c u, same_value d v) refl
      forms Digest c d u v = rw (same_value c u, same_value d v) refl
      forms Entry c d u v = rw (same_value c u, same_value d v) refl

      node_sound : (r : TermNode) → nth ts i ≡ Some r → Sound f is (node_act hs i r) (tree ts i)
      node_sound (Name k n) e =
          let l = nth_below ts i (Name k n) e in
          let v = has_value i l in
          let q = tree_at ts ok.lower i (Name k n) l (nth_node ts i (Name k n) e) in
          let c : cond (is_atom (kind_number k) i) (Some (f.atom (kind_number k) i)) None ≡ value f (tree_of (Name k n) (tree ts)) = rw (own i k n e, kind_code k) refl in
          (v.0, c ∙ ap (value f) (sym q) ∙ v.1, v.1)
      node_sound (Built g c d) e =
          let l = nth_below ts i (Built g c d) e in
          let p = nth_node ts i (Built g c d) e in
          let v = has_value i l in
          let w = parts_lower ts ok.lower i g c d l p in
          (v.0, forms g c d w.0 w.1 ∙ ap (value f) (sym (tree_at ts ok.lower i (Built g c d) l p)) ∙ v.1, v.1)
      node_sound (Mate c) e =
          let l = nth_below ts i (Mate c) e in
          let p = nth_node ts i (Mate c) e in
          let v = has_value i l in
          let w = inside_lower ts ok.lower i c l p in
          let q : made f is (MATE-OF (get_or hs c 0)) ≡ value f (tree_of (Mate c) (tree ts)) = rw (same_value c w) refl in
          (v.0, q ∙ ap (value f) (sym (tree_at ts ok.lower i (Mate c) l p)) ∙ v.1, v.1)

total_one : (ts : List TermNode) → total one ts ≡ length ts
total_one [] = refl
total_one (t ∷ ts) = let h = total_one ts in omega arith

module _ {S X : Type 0} {P : X → Type 0} {f : Algebra X} (law : Lawful P f) (m : S → Meaning X) where
  pub load_stands : (ts : List TermNode) → Orderly ts → length ts ≤ 512 → (s : S) (hs : List ℕ) (r : Result ℕ Halt) (s' : S) (hs' : List ℕ)
      → Loads f m ts s hs r s' hs' → LoadStands f m ts hs r s' hs'
  load_stands ts ok few s hs r s' hs' a own room =
      let is = take (length hs) ts in
      let lt = length-take (length hs) ts in
      let long : length is ≡ length ts = omega arith in
      let one_each = total_one is in
      map_cases r
      (λ c. (c ≡ 0 + total one is) × Loaded f (m s').issued (tree ts) (length ts) hs')
      (λ c. (c ≡ length ts) × Loaded f (m s').issued (tree ts) (length ts) hs')
      (λ h. (0 ≤ h.at) × (h.at < length ts) × NoRoom m node_act ts s' hs' h × Loaded f (m s').issued (tree ts) h.at hs')
      (λ h. (h.at < length ts) × NoRoom m node_act ts s' hs' h × Loaded f (m s').issued (tree ts) h.at hs')
      (λ c h. (omega (arith, h.0), h.1))
      (λ h w. (w.1, w.2, w.3))
      (acting_stands f m node_act one itself (λ j k h. let z : j ≢ k = omega arith in z) ts (tree ts) 0 (length ts) (λ _. Unit {0}) (λ s s' k h. h)
      (λ s hs k r u v e h env. node_sound ts ok own few law (m s).issued hs k env r e)
      is 0 0 s hs r s' hs' (omega arith) (omega arith) (λ k r e. let z : 0 + k ≡ k = omega arith in rw z (nth_take_back (length hs) ts k r e))
      (λ k h. omega arith) tt (λ k h. absurd (omega arith)) a)

module _ {S X : Type 0} (f : Algebra X) (m : S → Meaning X) (ts : List TermNode) (s : S) (hs : List ℕ) (r : Result ℕ Halt) (s' : S) (hs' : List ℕ) (a : Loads f m ts s hs r s' hs') where
  apart : (j k : ℕ) → (j < 0) ⊎ (length ts ≤ j) → k < length ts → j ≡ k → ⊥
  apart j k (inl o) u e = omega arith
  apart j k (inr o) u e = omega arith

  -- whatever comes of loading, handles keep their values and all other readings their handles
  pub load_keeps : KeptOutside m 0 (length ts) s hs s' hs'
  load_keeps =
      let is = take (length hs) ts in
      let lt = length-take (length hs) ts in
      let d = acting_keeps f m node_act one itself is 0 0 s hs r s' hs' a in
      record { kept = d.kept; outside = λ j o. d.outside j (λ k u v e. apart j k o (omega arith) e); long = d.long }

  pub load_bounded : length ts ≤ 512 → Bounded 0 (length ts) r
  load_bounded few =
      let is = take (length hs) ts in
      let lt = length-take (length hs) ts in
      let all = total_one is in
      map_cases r (λ c. c ≡ 0 + total one is) (λ c. c ≤ 512) (λ h. (0 ≤ h.at) × (h.at < 0 + length is)) (λ h. (0 ≤ h.at) × (h.at < length ts))
      (λ c h. omega arith) (λ h w. (w.0, omega (arith, w.1)))
      (acting_counts f m node_act one itself is 0 0 s hs r s' hs' a)
