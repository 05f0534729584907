use Rattle.std.proofs.Common.{◌≡◌, Decides, sym, subst, ap, ◌∙◌, ⊎_elim}
use Rattle.terms.specs.declared.node.TermNode.TheVariants.{Built}
use Rattle.terms.specs.Node.{node_at}
use Rattle.terms.specs.Held.{ComposableId}
use Rattle.terms.specs.Listed.{listed}
use Rattle.terms.proofs.Listed.{orderly}
use Rattle.terms.proofs.Trees.{parts_lower}
use Rattle.terms.proofs.Composed.{held_composable, held_decides, composable_name, composable_mate, judged_leaf, judged_left, judged_right}
use Rattle.terms.proofs.table.Terms.judge.Goals as goal

pub returns-then-contains : goal.returns-then-contains
returns-then-contains g c =
    let t = c.args.self.now in
    (λ e. held_composable _ _ ((held_decides (listed t) c.args.held.now (orderly t) c.args.id c.requires.known).0 (sym c.contains.ensures.is ∙ c.if-contains.true)), λ h. c.if-contains.true)

pub returns-then-contains-2 : goal.returns-then-contains-2
returns-then-contains-2 g c =
    let t = c.args.self.now in
    let id = c.args.id in
    let e : node_at (listed t) id ≡ Built c.in-Built.field-0 c.in-Built.a c.in-Built.b = ap (λ ts. node_at ts id) (sym c.as_slice.ensures) ∙ c.in-Built.is in
    let low = parts_lower (listed t) t.lower id c.in-Built.field-0 c.in-Built.a c.in-Built.b c.requires.known e in
    judged_right (listed t) c.args.held.now (orderly t) id _ _ _ c.requires.known e (sym c.contains.ensures.is ∙ c.if-contains.false) _ _ c.if-contains-2.true
    (subst (λ x. Decides x (ComposableId (listed t) c.args.held.now c.in-Built.a)) (sym c.contains-in-Built.ensures.is) (c.requires.lower c.in-Built.a low.0))
    (subst (λ x. Decides x (ComposableId (listed t) c.args.held.now c.in-Built.b)) (sym c.contains-then-contains-2.ensures.is) (c.requires.lower c.in-Built.b low.1))

pub returns-else-contains-2 : goal.returns-else-contains-2
returns-else-contains-2 g c =
    let t = c.args.self.now in
    let id = c.args.id in
    let e : node_at (listed t) id ≡ Built c.in-Built.field-0 c.in-Built.a c.in-Built.b = ap (λ ts. node_at ts id) (sym c.as_slice.ensures) ∙ c.in-Built.is in
    let low = parts_lower (listed t) t.lower id c.in-Built.field-0 c.in-Built.a c.in-Built.b c.requires.known e in
    judged_left (listed t) c.args.held.now (orderly t) id _ _ _ c.requires.known e (sym c.contains.ensures.is ∙ c.if-contains.false) _ c.if-contains-2.false
    (subst (λ x. Decides x (ComposableId (listed t) c.args.held.now c.in-Built.a)) (sym c.contains-in-Built.ensures.is) (c.requires.lower c.in-Built.a low.0))

pub returns-in-Name : goal.returns-in-Name
returns-in-Name g c =
    let t = c.args.self.now in
    let held = c.args.held.now in
    let is = ap (λ ts. node_at ts c.args.id) (sym c.as_slice.ensures) in
    judged_leaf (listed t) held (orderly t) c.args.id (sym c.contains.ensures.is ∙ c.if-contains.false)
    (⊎_elim
    (λ n. composable_name (listed t) held (orderly t) c.args.id n.0 n.1 c.requires.known (is ∙ n.2))
    (λ m. composable_mate (listed t) held (orderly t) c.args.id m.0 c.requires.known (is ∙ m.1))
    c.in-Name.is)
