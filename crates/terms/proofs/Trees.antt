-- The trees of numbers: their equations, that numbers are apart, that trees are well-formed.
use Rattle.std.proofs.Common.{◌≡◌, ℕ, zero, suc, ◌+◌, ◌<◌, ◌≤◌, ◌⊎◌, List, length, sym, refl, ap, ◌∙◌, subst, ap₂, inl, inr, not-suc-le-zero, arith}
use Rattle.std.proofs.lemmas.Bool.{cases_order}
use Rattle.deduction.specs.Term.{Kind as TreeKind, party, number, shared, public, table, function}
use Rattle.deduction.specs.Term.{Form as TreeForm, pair, sealed, digest, entry, Term, built, mate}
use Rattle.terms.specs.declared.node.Kind.{Kind}
use Rattle.terms.specs.declared.node.Kind.TheVariants.{Party, Number, Shared, Public, Table, Function}
use Rattle.terms.specs.declared.node.Form.{Form}
use Rattle.terms.specs.declared.node.Form.TheVariants.{Pair, Sealed, Digest, Entry}
use Rattle.terms.specs.declared.node.TermNode.{TermNode}
use Rattle.terms.specs.declared.node.TermNode.TheVariants.{Name, Built, Mate}
use Rattle.terms.specs.Node.{node_at, PartsBelow, Lower}
use Rattle.terms.specs.Tree.{kind_of, form_of, tree_of, tree_up_to, tree, Orderly}

-- two assignments of trees that agree below n give a record with parts below n the same tree
pub tree_agree : (n : ℕ) (r : TermNode) (f g : ℕ → Term) → PartsBelow n r → ((j : ℕ) → j < n → f j ≡ g j) → tree_of r f ≡ tree_of r g
tree_agree n (Name k i) f g low e = refl
tree_agree n (Built h a b) f g low e =
    let la : a + 1 ≤ n = low.0 in
    let lb : b + 1 ≤ n = low.1 in
    ap₂ (built (form_of h)) (e a (omega arith)) (e b (omega arith))
tree_agree n (Mate a) f g low e = let la : a + 1 ≤ n = low.0 in ap mate (e a (omega arith))

module _ (ts : List TermNode) (low : Lower ts) where
  deep_enough : (m n i : ℕ) → i < m → i < n → i < length ts → tree_up_to ts m i ≡ tree_up_to ts n i
  deep_enough zero n i x y z = absurd (not-suc-le-zero x)
  deep_enough (suc m) zero i x y z = absurd (not-suc-le-zero y)
  deep_enough (suc m) (suc n) i x y z =
      tree_agree i (node_at ts i) (λ j. tree_up_to ts m j) (λ j. tree_up_to ts n j) (low i z)
      (λ j l. deep_enough m n j (omega arith) (omega arith) (omega arith))

  -- a number's tree is the tree of its record
  pub tree_is : (i : ℕ) → i < length ts → tree ts i ≡ tree_of (node_at ts i) (tree ts)
  unfolding tree
  tree_is i z =
      tree_agree i (node_at ts i) (λ j. tree_up_to ts i j) (λ j. tree_up_to ts (suc j) j) (low i z)
      (λ j l. deep_enough i (suc j) j l (omega arith) (omega arith))

  pub tree_at : (i : ℕ) (r : TermNode) → i < length ts → node_at ts i ≡ r → tree ts i ≡ tree_of r (tree ts)
  tree_at i r l e = tree_is i l ∙ ap (λ n. tree_of n (tree ts)) e

  pub lower_at : (i : ℕ) (r : TermNode) → i < length ts → node_at ts i ≡ r → PartsBelow i r
  lower_at i r l e = subst (PartsBelow i) e (low i l)

  -- the parts of a two-part term, and the key in a mate, have lower numbers
  pub parts_lower : (i : ℕ) (f : Form) (a b : ℕ) → i < length ts → node_at ts i ≡ Built f a b → (a < i) × (b < i)
  parts_lower i f a b l e =
      let h = lower_at i (Built f a b) l e in
      let la : a + 1 ≤ i = h.0 in
      let lb : b + 1 ≤ i = h.1 in
      (omega arith, omega arith)

  pub inside_lower : (i a : ℕ) → i < length ts → node_at ts i ≡ Mate a → a < i
  inside_lower i a l e = let la : a + 1 ≤ i = (lower_at i (Mate a) l e).0 in omega arith

-- kinds and forms are apart in trees too
kind_from : TreeKind → Kind
kind_from party = Party
kind_from number = Number
kind_from shared = Shared
kind_from public = Public
kind_from table = Table
kind_from function = Function

kind_back : (k : Kind) → kind_from (kind_of k) ≡ k
unfolding kind_from
kind_back Party = refl
kind_back Number = refl
kind_back Shared = refl
kind_back Public = refl
kind_back Table = refl
kind_back Function = refl

pub kind_same : (j k : Kind) → kind_of j ≡ kind_of k → j ≡ k
kind_same j k e = sym (kind_back j) ∙ (ap kind_from e ∙ kind_back k)

form_from : TreeForm → Form
form_from pair = Pair
form_from sealed = Sealed
form_from digest = Digest
form_from entry = Entry

form_back : (f : Form) → form_from (form_of f) ≡ f
unfolding form_from
form_back Pair = refl
form_back Sealed = refl
form_back Digest = refl
form_back Entry = refl

pub form_same : (f g : Form) → form_of f ≡ form_of g → f ≡ g
form_same f g e = sym (form_back f) ∙ (ap form_from e ∙ form_back g)

module _ (ts : List TermNode) (ok : Orderly ts) where
  -- a record stands under one number
  pub record_once : (i j : ℕ) → i < length ts → j < length ts → node_at ts i ≡ node_at ts j → i ≡ j
  record_once i j x y e = go (cases_order i j)
    where
      go : (i ≡ j) ⊎ ((i < j) ⊎ (j < i)) → i ≡ j
      go (inl q) = q
      go (inr (inl q)) = absurd (ok.once i j q y e)
      go (inr (inr q)) = absurd (ok.once j i q x (sym e))

  -- records whose parts are apart have different trees
  same_record : (n : ℕ) (r s : TermNode) → PartsBelow n r → PartsBelow (length ts) s
      → ((a b : ℕ) → a < n → b < length ts → tree ts a ≡ tree ts b → a ≡ b)
      → tree_of r (tree ts) ≡ tree_of s (tree ts) → r ≡ s
  same_record n (Name k i) (Name l j) u v below e =
      let ek : kind_of k ≡ kind_of l = cc in
      let ei : i ≡ j = cc in
      ap₂ Name (kind_same k l ek) ei
  same_record n (Name k i) (Built g c d) u v below e = cc
  same_record n (Name k i) (Mate c) u v below e = cc
  same_record n (Built f a b) (Name l j) u v below e = cc
  same_record n (Built f a b) (Built g c d) u v below e =
      let lows : (a + 1 ≤ n) × (b + 1 ≤ n) = u in
      let tops : (c + 1 ≤ length ts) × (d + 1 ≤ length ts) = v in
      let ef : form_of f ≡ form_of g = cc in
      let ea : tree ts a ≡ tree ts c = cc in
      let eb : tree ts b ≡ tree ts d = cc in
      let fa : a ≡ c = below a c (omega arith) (omega arith) ea in
      let fb : b ≡ d = below b d (omega arith) (omega arith) eb in
      let ff : f ≡ g = form_same f g ef in
      cc
  same_record n (Built f a b) (Mate c) u v below e = cc
  same_record n (Mate a) (Name l j) u v below e = cc
  same_record n (Mate a) (Built g c d) u v below e = cc
  same_record n (Mate a) (Mate c) u v below e =
      let la : a + 1 ≤ n = u.0 in
      let lc : c + 1 ≤ length ts = v.0 in
      let ea : tree ts a ≡ tree ts c = cc in
      ap Mate (below a c (omega arith) (omega arith) ea)

  below_length : (j : ℕ) → j < length ts → PartsBelow (length ts) (node_at ts j)
  below_length j y = let h = ok.lower j y in let h0 = h.0 in let h1 = h.1 in (omega arith, omega arith)

  apart : (n i j : ℕ) → i < n → i < length ts → j < length ts → tree ts i ≡ tree ts j → i ≡ j
  apart zero i j x y z e = absurd (not-suc-le-zero x)
  apart (suc n) i j x y z e =
      record_once i j y z
      (same_record i (node_at ts i) (node_at ts j) (ok.lower i y) (below_length j z)
      (λ a b la lb. apart n a b (omega arith) (omega arith) lb)
      (sym (tree_is ts ok.lower i y) ∙ (e ∙ tree_is ts ok.lower j z)))

  -- different numbers stand for different trees
  pub numbers_apart : (i j : ℕ) → i < length ts → j < length ts → tree ts i ≡ tree ts j → i ≡ j
  numbers_apart i j = apart (suc i) i j (omega arith)

  -- a number that stands for the tree of a record with known parts has that record
  pub record_of : (r : TermNode) (i : ℕ) → PartsBelow (length ts) r → i < length ts → tree ts i ≡ tree_of r (tree ts) → node_at ts i ≡ r
  record_of r i u l e =
      same_record i (node_at ts i) r (ok.lower i l) u (λ a b la lb. numbers_apart a b (omega arith) lb)
      (sym (tree_is ts ok.lower i l) ∙ e)
