use Rattle.std.proofs.Common.{◌≡◌, ◌≤◌, ◌-◌, ℕ, List, length}
use Rattle.scan.specs.Tokens.{pos_of, text_of}
use Rattle.syntax.specs.Grammar.{Tok}
use Rattle.protocol.specs.View.{view_of}
use Rattle.table_text.specs.Ahead.{Ahead, Apart}
use Rattle.table_text.specs.Keys.{ticks}
use Rattle.table_text.proofs.Keys.{Left}
use Rattle.table_text.proofs.key.mates.Given as goal

abbrev pub invariant-loop-protocol : goal.invariant-loop-protocol
invariant-loop-protocol l = record {
  text : text_of l.scanner ≡ text_of l.fn.scanner;
  low : pos_of l.fn.scanner ≤ pos_of l.scanner;
  left : (n : ℕ) (ts : List Tok) → Apart ts → Ahead (text_of l.fn.scanner) (pos_of l.fn.scanner) (ticks n ts)
      → Left n l.first ts (text_of l.fn.scanner) (view_of l.fn.protocol) (pos_of l.scanner) l.key (view_of l.protocol);
}

abbrev pub decreases-loop-protocol : goal.decreases-loop-protocol
decreases-loop-protocol l = length (text_of l.fn.scanner) - pos_of l.scanner
