-- A table and the list of its records.
use Rattle.std.proofs.Common.{◌≡◌, ℕ, ◌≤◌, length, Some, None, Option, IfSome, sym, arith, length-take-le}
use Rattle.std.specs.Prelude.{slice_get}
use Rattle.std.proofs.Props.{props}
use Rattle.std.proofs.lemmas.Option.{slice_get_within, get_or_from_slice_get}
use mathlib.Core.HLevel.{is_prop→PathP}
use Rattle.bounded.specs.Items.{items}
use Rattle.terms.specs.declared.node.Kind.TheVariants.{Party}
use Rattle.terms.specs.declared.node.TermNode.{TermNode}
use Rattle.terms.specs.declared.node.TermNode.TheVariants.{Name}
use Rattle.terms.specs.declared.table.Terms.{Terms}
use Rattle.terms.specs.Node.{Lower, Fitting, Once}
use Rattle.terms.specs.Tree.{tree, tree_of, Orderly}
use Rattle.terms.specs.Listed.{listed}
use Rattle.terms.proofs.Trees.{tree_at}

-- the records of a table are in order
pub orderly : {N : ℕ} (t : Terms N) → Orderly (listed t)
orderly t = record { lower = t.lower; fitting = t.fitting; once = t.once }

pub listed_few : {N : ℕ} (t : Terms N) → length (listed t) ≤ N
listed_few t =
    let h : t.nodes.len ≤ length t.nodes.cells = omega (arith, t.nodes.few, t.nodes.size) in
    omega (arith, length-take-le t.nodes.len t.nodes.cells h, t.nodes.few)

-- a number stands for the tree of its record
pub got : {N : ℕ} (t : Terms N) (id : ℕ) (o : Option TermNode) → o ≡ slice_get (listed t) id → IfSome o (λ r. tree (listed t) id ≡ tree_of r (tree (listed t)))
got t id None e = tt
got t id (Some r) e =
    let l = slice_get_within (listed t) id r (sym e) in
    tree_at (listed t) t.lower id r l (get_or_from_slice_get (listed t) id r (Name Party 0) (sym e))

-- two tables with the same records in the same places are the same
pub same_nodes : {N : ℕ} (t u : Terms N) → u.nodes ≡ t.nodes → u ≡ t
same_nodes t u e = λ i. record {
  nodes = e i;
  lower = is_prop→PathP (λ j. Lower (items (e j))) (λ j. hlevel props) u.lower t.lower i;
  fitting = is_prop→PathP (λ j. Fitting (items (e j))) (λ j. hlevel props) u.fitting t.fitting i;
  once = is_prop→PathP (λ j. Once (items (e j))) (λ j. hlevel props) u.once t.once i;
}
