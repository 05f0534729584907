use Rattle.std.proofs.Common.{◌≡◌, ◌-◌, ◌≤◌, [], length}
use Rattle.bounded.specs.Items.{items}
use Rattle.names.specs.Names.{known}
use Rattle.scan.specs.Tokens.{text_of, pos_of}
use Rattle.protocol.specs.View.{view_of}
use Rattle.table_text.proofs.Looping.{Sofar}
use Rattle.table_text.proofs.table.read_lines.Given as goal

abbrev pub invariant-loop-scanner : goal.invariant-loop-scanner
invariant-loop-scanner l = record {
  text : text_of l.scanner ≡ l.fn.text;
  short : length l.fn.text ≤ 32768;
  parts : items l.parts ≡ [];
  sofar : Sofar l.fn.text (pos_of l.scanner) (known l.names) (view_of l.protocol);
}

abbrev pub decreases-loop-scanner : goal.decreases-loop-scanner
decreases-loop-scanner l = length (text_of l.scanner) - pos_of l.scanner
