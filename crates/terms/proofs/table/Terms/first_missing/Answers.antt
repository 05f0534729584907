use Rattle.std.proofs.Common.{◌≡◌, sym, ap, ◌∙◌, arith, rules}
use Rattle.terms.specs.declared.node.TermNode.TheVariants.{Built}
use Rattle.terms.specs.Held.{held_terms, FirstMissing}
use Rattle.terms.specs.Node.{node_at}
use Rattle.terms.specs.Tree.{tree}
use Rattle.terms.specs.Listed.{listed}
use Rattle.terms.proofs.Listed.{orderly}
use Rattle.terms.proofs.Trees.{tree_at, parts_lower}
use Rattle.terms.proofs.Missing.{missing_itself, missing_lacking}
use Rattle.terms.proofs.table.Terms.first_missing.Goals as goal

pub loop-lacking-preserved : goal.loop-lacking-preserved
loop-lacking-preserved g c =
    let t = c.args.self.now in
    let m = c.loop-lacking.lacking in
    let e : node_at (listed t) m ≡ Built c.in-Built.field-0 c.in-Built.a c.in-Built.b = ap (λ ts. node_at ts m) (sym c.as_slice.ensures) ∙ c.in-Built.is in
    let is = tree_at (listed t) t.lower m (Built c.in-Built.field-0 c.in-Built.a c.in-Built.b) c.loop-lacking.invariant.0 e in
    let low = parts_lower (listed t) t.lower m c.in-Built.field-0 c.in-Built.a c.in-Built.b c.loop-lacking.invariant.0 e in
    search rules

pub returns : goal.returns
returns g c =
    let t = c.args.self.now in
    let held = c.args.held.now in
    let m = c.loop-lacking.lacking in
    let inv = c.loop-lacking.invariant in
    let here = missing_itself (listed t) held (orderly t) m inv.0 inv.1 (node_at c.as_slice.result.now m) (ap (λ ts. node_at ts m) (sym c.as_slice.ensures)) c.in_default.not-Built in
    let whole : FirstMissing (held_terms (listed t) held) (tree (listed t) c.args.id) (tree (listed t) m) = inv.2 (tree (listed t) m) here in
    record {
      first = (omega arith, inv.0, whole);
      lacking = missing_lacking (held_terms (listed t) held) (tree (listed t) c.args.id) (tree (listed t) m) whole;
    }
