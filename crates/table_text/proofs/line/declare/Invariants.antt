use Rattle.std.proofs.Common.{◌≡◌, ◌-◌, List, ℕ, [], ◌∷◌, length}
use Rattle.names.specs.Names.{known}
use Rattle.scan.specs.Tokens.{text_of, pos_of}
use Rattle.syntax.specs.Grammar.{end, name_tokens}
use Rattle.protocol.specs.View.{view_of}
use Rattle.table_text.specs.Ahead.{Ahead}
use Rattle.table_text.specs.Lines.{Declarable}
use Rattle.table_text.proofs.Naming.{Left}
use Rattle.table_text.proofs.line.declare.Given as goal

abbrev pub invariant-loop-word : goal.invariant-loop-word
invariant-loop-word l = record {
  text : text_of l.scanner ≡ text_of l.fn.scanner;
  left : (ws : List (List ℕ)) → Ahead (text_of l.fn.scanner) (pos_of l.fn.scanner) (name_tokens ws (end ∷ [])) → Declarable (known l.fn.names) (view_of l.fn.protocol)
      → Left l.kind ws (known l.fn.names) (view_of l.fn.protocol) (text_of l.fn.scanner) (pos_of l.scanner) (known l.names) (view_of l.protocol);
}

abbrev pub decreases-loop-word : goal.decreases-loop-word
decreases-loop-word l = length (text_of l.scanner) - pos_of l.scanner
