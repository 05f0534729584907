use Rattle.std.proofs.Common.{◌∙◌, ap, sym, subst}
use Rattle.scripts.specs.View.{written}
use Rattle.scripts.proofs.Writing.{written_few}
use Rattle.protocol.proofs.Initial.{Behind, none_behind, one_behind, all_behind, few_behind}
use Rattle.protocol.proofs.protocol.begins.opening.Goals as goal

pub loop-line-init : goal.loop-line-init
loop-line-init c =
    none_behind (written c.args.script.now) _
    (ap (λ i. i.iter.rest.now) c.into_iter-line-iterator.ensures.into_iter_gives ∙ ap (λ i. i.rest.now) c.rev-line-items.ensures.source ∙ c.iter.ensures.rest ∙ c.lines.ensures)

pub opens-opening-requires : goal.opens-opening-requires
opens-opening-requires c =
    few_behind (written c.args.script.now) c.loop-line.line-iterator.iter.rest.now c.next.new.self.iter.rest.now c.loop-line.opening c.in-Some.line.now (written_few c.args.script.now) c.loop-line.invariant
    c.in-Some.ensures.steps

pub loop-line-preserved : goal.loop-line-preserved
loop-line-preserved c =
    subst (Behind (written c.args.script.now) c.next.new.self.iter.rest.now) (sym c.opens-opening.ensures)
    (one_behind (written c.args.script.now) c.loop-line.line-iterator.iter.rest.now c.next.new.self.iter.rest.now c.loop-line.opening c.in-Some.line.now c.loop-line.invariant c.in-Some.ensures.steps)

pub returns : goal.returns
returns c = all_behind (written c.args.script.now) c.loop-line.line-iterator.iter.rest.now c.loop-line.opening c.loop-line.invariant c.in-None.ensures.steps.0
