use Rattle.std.proofs.Common.{◌≡◌, ◌+◌, ◌-◌, length}
use Rattle.scan.specs.Tokens.{text_of, pos_of}
use Rattle.syntax.proofs.Lines.{Sofar, left}
use Rattle.syntax.proofs.check.check_line.Given as goal

abbrev pub invariant-loop-machine : goal.invariant-loop-machine
invariant-loop-machine l = record {
  read : Sofar (text_of l.fn.scanner) (pos_of l.fn.scanner) (pos_of l.scanner) l.machine;
  text : text_of l.scanner ≡ text_of l.fn.scanner;
}

abbrev pub decreases-loop-machine : goal.decreases-loop-machine
decreases-loop-machine l = length (text_of l.scanner) - pos_of l.scanner + left l.machine.mode
