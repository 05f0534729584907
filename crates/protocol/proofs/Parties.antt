-- Party names by number.
use Rattle.std.proofs.Common.{◌≡◌, ℕ, suc, ◌+◌, ◌-◌, ◌<◌, Bool, true, false, List, ◌∷◌, length, Some, None, Option, sym, refl, ap, ◌∙◌, arith}
use mathlib.Core.Bool.{false≢true}
use Rattle.deduction.specs.Term.{Term}
use Rattle.terms.specs.declared.node.Kind.TheVariants.{Party, Number, Shared, Public, Table, Function}
use Rattle.terms.specs.declared.node.TermNode.{TermNode}
use Rattle.terms.specs.declared.node.TermNode.TheVariants.{Name, Built, Mate}
use Rattle.terms.specs.Node.{node_at}
use Rattle.terms.specs.Outcome.{Reads}
use Rattle.terms.specs.Tree.{tree, tree_of, Orderly}
use Rattle.terms.proofs.Trees.{tree_is}
use Rattle.rules.specs.State.{nth, party_names}
use Rattle.protocol.specs.Reading.{is_party_node, is_party}
use Rattle.protocol.specs.States.{trees_from, trees}

here : (r : TermNode) (T : ℕ → Term) (us : List Term) → is_party_node r ≡ true → party_names (tree_of r T ∷ us) ≡ tree_of r T ∷ party_names us
here (Name Party i) T us e = refl
here (Name Number i) T us e = absurd (false≢true e)
here (Name Shared i) T us e = absurd (false≢true e)
here (Name Public i) T us e = absurd (false≢true e)
here (Name Table i) T us e = absurd (false≢true e)
here (Name Function i) T us e = absurd (false≢true e)
here (Built f a b) T us e = absurd (false≢true e)
here (Mate a) T us e = absurd (false≢true e)

skip : (r : TermNode) (T : ℕ → Term) (us : List Term) → is_party_node r ≡ false → party_names (tree_of r T ∷ us) ≡ party_names us
skip (Name Party i) T us e = absurd (false≢true (sym e))
skip (Name Number i) T us e = refl
skip (Name Shared i) T us e = refl
skip (Name Public i) T us e = refl
skip (Name Table i) T us e = refl
skip (Name Function i) T us e = refl
skip (Built f a b) T us e = refl
skip (Mate a) T us e = refl

-- the party names from a number on are those that are left
abbrev pub LeftFrom : List TermNode → ℕ → ℕ → ℕ → Type 0
LeftFrom ts before id left = (k : ℕ) → id + k ≡ length ts → nth (party_names (trees ts)) before ≡ nth (party_names (trees_from ts id k)) left

pub left_start : (ts : List TermNode) (before : ℕ) → LeftFrom ts before 0 before
unfolding trees
left_start ts before k e = let q : k ≡ length ts = omega arith in ap (λ m. nth (party_names (trees_from ts 0 m)) before) (sym q)

module _ (ts : List TermNode) (ok : Orderly ts) (before id left : ℕ) (l : id < length ts) (inv : LeftFrom ts before id left) where
  party : (r : Option TermNode) → Reads ts id r → (b : Bool) → b ≡ is_party r → is_party_node (node_at ts id) ≡ b
  party None w b e = absurd (omega (arith, w))
  party (Some r) w b e = ap is_party_node w.1 ∙ sym e

  pub left_more : (r : Option TermNode) → Reads ts id r → false ≡ is_party r → LeftFrom ts before (id + 1) left
  left_more r w e k q =
      inv (suc k) (omega arith)
      ∙ ap (λ us. nth us left) (ap (λ t. party_names (t ∷ trees_from ts (id + 1) k)) (tree_is ts ok.lower id l) ∙ skip (node_at ts id) (tree ts) (trees_from ts (id + 1) k) (party r w false e))

  from_here : (r : Option TermNode) → Reads ts id r → true ≡ is_party r → (k : ℕ) → (id + 1) + k ≡ length ts
      → nth (party_names (trees ts)) before ≡ nth (tree ts id ∷ party_names (trees_from ts (id + 1) k)) left
  from_here r w e k q =
      inv (suc k) (omega arith)
      ∙ ap (λ us. nth us left)
      (ap (λ t. party_names (t ∷ trees_from ts (id + 1) k)) (tree_is ts ok.lower id l) ∙ here (node_at ts id) (tree ts) (trees_from ts (id + 1) k) (party r w true e)
      ∙ ap (λ t. t ∷ party_names (trees_from ts (id + 1) k)) (sym (tree_is ts ok.lower id l)))

  pub left_less : (r : Option TermNode) → Reads ts id r → true ≡ is_party r → (m : ℕ) → left ≡ suc m → LeftFrom ts before (id + 1) m
  left_less r w e m q k p = from_here r w e k p ∙ ap (nth (tree ts id ∷ party_names (trees_from ts (id + 1) k))) q

  pub left_here : (r : Option TermNode) → Reads ts id r → true ≡ is_party r → left ≡ 0 → nth (party_names (trees ts)) before ≡ Some (tree ts id)
  left_here r w e q = from_here r w e (length ts - (id + 1)) (omega arith) ∙ ap (nth (tree ts id ∷ party_names (trees_from ts (id + 1) (length ts - (id + 1))))) q

pub left_none : (ts : List TermNode) (before id left : ℕ) → id ≡ length ts → LeftFrom ts before id left → nth (party_names (trees ts)) before ≡ None
left_none ts before id left e inv = inv 0 (omega arith)
