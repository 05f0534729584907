use Rattle.std.proofs.Common.{arith, None}
use Rattle.scripts.specs.declared.instruction.Instruction.TheVariants.{Given}
use Rattle.listing.proofs.Lengths.{lines_more}
use Rattle.listing.proofs.Writes.{puts_more}
use Rattle.listing.proofs.text.Text.lines.Goals as goal

pub loop-number-preserved : goal.loop-number-preserved
loop-number-preserved c = rw (lines_more c.args.agent c.loop-number.number c.args.lines.now (record { op = Given 0; holds = None }) (omega arith)) (puts_more c.loop-number.invariant c.line.ensures)
