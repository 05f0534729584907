use Rattle.std.proofs.Common.{◌≡◌, ◌+◌, ◌-◌, ◌*◌, ◌≤◌, List, length}
use Rattle.bounded.specs.Items.{items}
use Rattle.scan.specs.Tokens.{text_of, pos_of}
use Rattle.syntax.specs.Grammar.{Term, Tok}
use Rattle.names.specs.Names.{known}
use Rattle.protocol.specs.View.{view_of}
use Rattle.table_text.specs.Ahead.{Ahead, Roomy, each_tokens}
use Rattle.table_text.proofs.Collecting.{Rest}
use Rattle.table_text.proofs.term.+term.Given as goal

abbrev pub decreases-term : goal.decreases-term
decreases-term l = 4 * (length (text_of l.scanner.now) - pos_of l.scanner.now)

abbrev pub decreases-term_from : goal.decreases-term_from
decreases-term_from l = 4 * (length (text_of l.scanner.now) - pos_of l.scanner.now) + 3

abbrev pub decreases-named : goal.decreases-named
decreases-named l = 4 * (length (text_of l.scanner.now) - pos_of l.scanner.now) + 2

abbrev pub decreases-sealed : goal.decreases-sealed
decreases-sealed l = 4 * (length (text_of l.scanner.now) - pos_of l.scanner.now) + 2

abbrev pub decreases-tuple : goal.decreases-tuple
decreases-tuple l = 4 * (length (text_of l.scanner.now) - pos_of l.scanner.now) + 2

abbrev pub decreases-collect : goal.decreases-collect
decreases-collect l = 4 * (length (text_of l.scanner.now) - pos_of l.scanner.now) + 1

-- what is left completes the whole
abbrev pub invariant-collect-loop-first : goal.invariant-collect-loop-first
invariant-collect-loop-first l = record {
  text : text_of l.scanner ≡ text_of l.initial.scanner;
  low : pos_of l.initial.scanner ≤ pos_of l.scanner;
  left : (us : List Term) (ts : List Tok) → Ahead (text_of l.initial.scanner) (pos_of l.initial.scanner) (each_tokens us ts)
      → Roomy (text_of l.initial.scanner) (items l.initial.parts) (pos_of l.initial.scanner)
      → Rest (known l.names) us (text_of l.initial.scanner) ts (items l.initial.parts) (view_of l.initial.protocol) (pos_of l.scanner) (view_of l.protocol) (items l.parts);
}

abbrev pub decreases-collect-loop-first : goal.decreases-collect-loop-first
decreases-collect-loop-first l = length (text_of l.scanner) - pos_of l.scanner
