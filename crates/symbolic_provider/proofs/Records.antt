-- The record of a number tells the term that the handle stands for.
use Rattle.std.proofs.Common.{◌≡◌, ℕ, List, length, Some, None, Option, sym, refl, ap, ◌∙◌, arith}
use Rattle.terms.specs.declared.node.TermNode.{TermNode}
use Rattle.terms.specs.declared.node.TermNode.TheVariants.{Name, Built, Mate}
use Rattle.terms.specs.Outcome.{Known, Reads}
use Rattle.terms.specs.Tree.{tree, tree_of}
use Rattle.terms.proofs.Listed.{orderly}
use Rattle.terms.proofs.Trees.{tree_at, parts_lower, inside_lower}
use Rattle.symbolic_provider.specs.declared.store.SymbolicProvider.{SymbolicProvider}
use Rattle.symbolic_provider.specs.Records.{Recorded, term_of}
use Rattle.symbolic_provider.specs.State.{issued_below, issued_of, nodes_of}
use Rattle.symbolic_provider.specs.Issued.{stands_in, stands_out}

-- a record whose parts are terms tells its tree
known_term : (ts : List TermNode) (r : TermNode) → Known ts r → term_of (issued_below ts (length ts)) r ≡ Some (tree_of r (tree ts))
known_term ts (Name k i) known = refl
known_term ts (Built f a b) known = rw (stands_in ts (length ts) a known.0, stands_in ts (length ts) b known.1) refl
known_term ts (Mate a) known = rw (stands_in ts (length ts) a known) refl

module _ (s : SymbolicProvider) (h : ℕ) where
  -- the parts of a number's record are terms
  parts_known : (r : TermNode) → Reads (nodes_of s) h (Some r) → Known (nodes_of s) r
  parts_known (Name k i) has = tt
  parts_known (Built f a b) has =
      let low = parts_lower (nodes_of s) (orderly s.terms).lower h f a b has.0 has.1 in
      let la = low.0 in
      let lb = low.1 in
      let lh = has.0 in
      (omega arith, omega arith)
  parts_known (Mate a) has =
      let la = inside_lower (nodes_of s) (orderly s.terms).lower h a has.0 has.1 in
      let lh = has.0 in
      omega arith

  pub recorded : (o : Option TermNode) → Reads (nodes_of s) h o → Recorded (issued_of s) h o
  recorded None past = stands_out (nodes_of s) (length (nodes_of s)) h past
  recorded (Some r) has = (
    tree (nodes_of s) h,
    stands_in (nodes_of s) (length (nodes_of s)) h has.0,
    known_term (nodes_of s) r (parts_known r has) ∙ ap Some (sym (tree_at (nodes_of s) (orderly s.terms).lower h r has.0 has.1)),
  )
