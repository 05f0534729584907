-- The tests on records say of their trees what they are named for.
use Rattle.std.proofs.Common.{◌≡◌, ℕ, zero, suc, ◌+◌, ◌<◌, ◌≤◌, true, false, eqb, List, length, Decides, sym, refl, ap, ◌∙◌, subst, not-suc-le-zero, arith}
use Rattle.std.proofs.lemmas.Bool.Decides.{Decides-eqb, Decides-and, Decides-like}
use Rattle.deduction.specs.Term.{Kind as TreeKind, party, number, shared, public, table, function}
use Rattle.deduction.specs.Term.{Term, Key, Named, PartsFit, Asymmetric, Formed}
use Rattle.terms.specs.declared.node.Kind.{Kind}
use Rattle.terms.specs.declared.node.Kind.TheVariants.{Party, Number, Shared, Public, Table, Function}
use Rattle.terms.specs.declared.node.Form.{Form}
use Rattle.terms.specs.declared.node.Form.TheVariants.{Pair, Sealed, Digest, Entry}
use Rattle.terms.specs.declared.node.TermNode.{TermNode}
use Rattle.terms.specs.declared.node.TermNode.TheVariants.{Name, Built, Mate}
use Rattle.terms.specs.Node.{node_at, PartsBelow, kind_number, is_key, is_named, is_asymmetric, parts_fit, fits}
use Rattle.terms.specs.Tree.{kind_of, form_of, tree_of, tree, Orderly}
use Rattle.terms.proofs.Trees.{tree_is}

yes_decides : Decides true (Unit {0})
yes_decides = (λ e. tt, λ u. refl)

no_decides : Decides false ⊥
no_decides = (λ e. let z : ◌≡◌ {A = ℕ} 0 1 = cc in omega arith, λ b. absurd b)

-- the kind in trees of a number
kind_from : ℕ → TreeKind
kind_from zero = party
kind_from (suc zero) = number
kind_from (suc (suc zero)) = shared
kind_from (suc (suc (suc zero))) = public
kind_from (suc (suc (suc (suc zero)))) = table
kind_from (suc (suc (suc (suc (suc n))))) = function

number_of : TreeKind → ℕ
number_of party = 0
number_of number = 1
number_of shared = 2
number_of public = 3
number_of table = 4
number_of function = 5

from_number : (k : Kind) → kind_from (kind_number k) ≡ kind_of k
unfolding kind_from
from_number Party = refl
from_number Number = refl
from_number Shared = refl
from_number Public = refl
from_number Table = refl
from_number Function = refl

to_number : (k : Kind) → number_of (kind_of k) ≡ kind_number k
unfolding number_of
to_number Party = refl
to_number Number = refl
to_number Shared = refl
to_number Public = refl
to_number Table = refl
to_number Function = refl

kind_decides : (j k : Kind) → Decides (eqb (kind_number j) (kind_number k)) (kind_of j ≡ kind_of k)
kind_decides j k =
    Decides-like (eqb (kind_number j) (kind_number k))
    (λ e. sym (from_number j) ∙ (ap kind_from e ∙ from_number k))
    (λ e. sym (to_number j) ∙ (ap number_of e ∙ to_number k))
    (Decides-eqb (kind_number j) (kind_number k))

module _ (f : ℕ → Term) where
  pub key_decides : (r : TermNode) → Decides (is_key r) (Key (tree_of r f))
  key_decides (Name Party i) = no_decides
  key_decides (Name Number i) = no_decides
  key_decides (Name Shared i) = yes_decides
  key_decides (Name Public i) = yes_decides
  key_decides (Name Table i) = no_decides
  key_decides (Name Function i) = no_decides
  key_decides (Built Pair a b) = no_decides
  key_decides (Built Sealed a b) = no_decides
  key_decides (Built Digest a b) = no_decides
  key_decides (Built Entry a b) = yes_decides
  key_decides (Mate a) = yes_decides

  named_decides : (k : Kind) (r : TermNode) → Decides (is_named k r) (Named (kind_of k) (tree_of r f))
  named_decides k (Name own i) = kind_decides own k
  named_decides k (Built g a b) = no_decides
  named_decides k (Mate a) = no_decides

  asymmetric_decides : (r : TermNode) → Decides (is_asymmetric r) (Asymmetric (tree_of r f))
  asymmetric_decides (Name k i) = kind_decides k Public
  asymmetric_decides (Built Pair a b) = no_decides
  asymmetric_decides (Built Sealed a b) = no_decides
  asymmetric_decides (Built Digest a b) = no_decides
  asymmetric_decides (Built Entry a b) = yes_decides
  asymmetric_decides (Mate a) = no_decides

  fit_decides : (g : Form) (a b : TermNode) → Decides (parts_fit g a b) (PartsFit (form_of g) (tree_of a f) (tree_of b f))
  fit_decides Pair a b = yes_decides
  fit_decides Sealed a b = key_decides b
  fit_decides Digest a b = named_decides Function a
  fit_decides Entry a b = Decides-and (is_named Table a) (is_named Party b) (named_decides Table a) (named_decides Party b)

module _ (ts : List TermNode) (ok : Orderly ts) where
  -- the tests on the records of numbers decide what holds of their trees
  pub key_at : (i : ℕ) → i < length ts → Decides (is_key (node_at ts i)) (Key (tree ts i))
  key_at i l = subst (λ t. Decides (is_key (node_at ts i)) (Key t)) (sym (tree_is ts ok.lower i l)) (key_decides (tree ts) (node_at ts i))

  pub asymmetric_at : (i : ℕ) → i < length ts → Decides (is_asymmetric (node_at ts i)) (Asymmetric (tree ts i))
  asymmetric_at i l =
      subst (λ t. Decides (is_asymmetric (node_at ts i)) (Asymmetric t)) (sym (tree_is ts ok.lower i l)) (asymmetric_decides (tree ts) (node_at ts i))

  pub fit_at : (g : Form) (a b : ℕ) → a < length ts → b < length ts
      → Decides (parts_fit g (node_at ts a) (node_at ts b)) (PartsFit (form_of g) (tree ts a) (tree ts b))
  fit_at g a b la lb =
      subst (λ s. Decides (parts_fit g (node_at ts a) (node_at ts b)) (PartsFit (form_of g) s (tree ts b))) (sym (tree_is ts ok.lower a la))
      (subst (λ t. Decides (parts_fit g (node_at ts a) (node_at ts b)) (PartsFit (form_of g) (tree_of (node_at ts a) (tree ts)) t)) (sym (tree_is ts ok.lower b lb))
      (fit_decides (tree ts) g (node_at ts a) (node_at ts b)))

  -- a record with well-formed parts of the right kinds is well-formed
  formed_node : (i : ℕ) (r : TermNode) → i ≤ length ts → PartsBelow i r → fits ts r ≡ true
      → ((j : ℕ) → j < i → Formed (tree ts j)) → Formed (tree_of r (tree ts))
  formed_node i (Name k n) l low e below = tt
  formed_node i (Built g a b) l low e below =
      let la : a + 1 ≤ i = low.0 in
      let lb : b + 1 ≤ i = low.1 in
      (below a (omega arith), below b (omega arith), (fit_at g a b (omega arith) (omega arith)).0 e)
  formed_node i (Mate a) l low e below =
      let la : a + 1 ≤ i = low.0 in
      (below a (omega arith), (asymmetric_at a (omega arith)).0 e)

  formed_to : (n i : ℕ) → i < n → i < length ts → Formed (tree ts i)
  formed_to zero i x l = absurd (not-suc-le-zero x)
  formed_to (suc n) i x l =
      subst Formed (sym (tree_is ts ok.lower i l))
      (formed_node i (node_at ts i) (omega arith) (ok.lower i l) (ok.fitting i l) (λ j m. formed_to n j (omega arith) (omega arith)))

  -- every number stands for a well-formed term
  pub formed : (i : ℕ) → i < length ts → Formed (tree ts i)
  formed i l = formed_to (suc i) i (omega arith) l
