use Rattle.std.proofs.Common.{sym, ap, ◌∙◌, subst, inl, inr}
use Rattle.terms.specs.declared.node.TermNode.TheVariants.{Built}
use Rattle.terms.specs.Listed.{listed}
use Rattle.terms.specs.Tree.{tree}
use Rattle.terms.proofs.Listed.{orderly}
use Rattle.rules.specs.Saturate.{take_term}
use Rattle.scripts.specs.Writing.{Takes}
use Rattle.scripts.proofs.Taking.{take_leaf, take_pair, take_sealed, take_other}
use Rattle.scripts.proofs.script.saturate.take_term.Goals as goal

pub returns-in_err-a : goal.returns-in_err-a
returns-in_err-a c = λ v l h j.
    let ts = c.args.terms.now in
    subst (λ r. Takes (listed ts) v (take_term v c.args.slot (tree (listed ts) c.args.term)) r) (sym c.from_residual.ensures)
    (take_leaf (listed ts) (orderly ts) v h c.args.judged.now j c.args.slot c.args.term l (c.in_err-a.ensures l))

pub returns-in-Pair-default-default : goal.returns-in-Pair-default-default
returns-in-Pair-default-default c = λ v l h j.
    let ts = c.args.terms.now in
    let p = c.in_ok-a.field-0 in
    let n = c.in_ok-a.ensures in
    take_pair (listed ts) (orderly ts) v h c.args.judged.now j c.args.slot c.args.term l p.1 p.2
    (n.1 ∙ ap (λ g. Built g p.1 p.2) c.in-Pair-default-default.is-0) c.missing_half.result c.missing_half.ensures

pub returns-in-Sealed-default-default : goal.returns-in-Sealed-default-default
returns-in-Sealed-default-default c = λ v l h j.
    let ts = c.args.terms.now in
    let p = c.in_ok-a.field-0 in
    let n = c.in_ok-a.ensures in
    take_sealed (listed ts) (orderly ts) v h c.args.judged.now j c.args.slot c.args.term l p.1 p.2
    (n.1 ∙ ap (λ g. Built g p.1 p.2) c.in-Sealed-default-default.is-0) c.missing_content.result c.missing_content.ensures

pub returns-in-Digest-default-default : goal.returns-in-Digest-default-default
returns-in-Digest-default-default c = λ v l h j.
    let ts = c.args.terms.now in
    let p = c.in_ok-a.field-0 in
    let n = c.in_ok-a.ensures in
    take_other (listed ts) (orderly ts) v h c.args.judged.now j c.args.slot c.args.term l p.1 p.2 p.0 (inl c.in-Digest-default-default.is-0) n.1

pub returns-in-Entry-default-default : goal.returns-in-Entry-default-default
returns-in-Entry-default-default c = λ v l h j.
    let ts = c.args.terms.now in
    let p = c.in_ok-a.field-0 in
    let n = c.in_ok-a.ensures in
    take_other (listed ts) (orderly ts) v h c.args.judged.now j c.args.slot c.args.term l p.1 p.2 p.0 (inr c.in-Entry-default-default.is-0) n.1
