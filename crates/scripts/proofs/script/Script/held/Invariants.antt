use Rattle.std.proofs.Common.{take}
use Rattle.scripts.specs.Composing.{HeldMarks}
use Rattle.scripts.proofs.script.Script.held.Given as goal

abbrev pub invariant-loop-line : goal.invariant-loop-line
invariant-loop-line l = HeldMarks (take l.line-index l.line-items) l.marks
