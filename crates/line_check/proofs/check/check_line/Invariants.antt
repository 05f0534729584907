use Rattle.std.proofs.Common.{◌≡◌, ◌+◌, ◌-◌, length}
use Rattle.scan.specs.Tokens.{text_of, pos_of}
use Rattle.names.specs.Names.{known}
use Rattle.syntax.proofs.Lines.{left}
use Rattle.line_check.proofs.Lines.{Sofar}
use Rattle.line_check.proofs.check.check_line.Given as goal

abbrev pub invariant-loop-line : goal.invariant-loop-line
invariant-loop-line l = record {
  read : Sofar (known l.names) (text_of l.fn.scanner) (pos_of l.fn.scanner) (pos_of l.scanner) l.machine;
  text : text_of l.scanner ≡ text_of l.fn.scanner;
}

abbrev pub decreases-loop-line : goal.decreases-loop-line
decreases-loop-line l = length (text_of l.scanner) - pos_of l.scanner + left l.machine.mode
