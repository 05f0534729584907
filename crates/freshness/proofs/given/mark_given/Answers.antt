use Rattle.freshness.proofs.Using.{given_more, marked_then}
use Rattle.freshness.proofs.given.mark_given.Goals as goal

pub loop-line-preserved : goal.loop-line-preserved
loop-line-preserved c =
    marked_then _ _ _ c.args.marks.now c.loop-line.marks c.mark_instruction.new.marks
    (λ t. given_more t c.lines-line-items.result.now c.loop-line.line-index c.loop-line-test.true) c.loop-line.invariant c.mark_instruction.ensures
