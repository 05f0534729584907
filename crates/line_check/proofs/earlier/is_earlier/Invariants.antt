use Rattle.std.proofs.Common.{◌≡◌, ◌-◌, List, length}
use Rattle.scan.specs.Tokens.{text_of, pos_of}
use Rattle.syntax.specs.Grammar.{Tok, name}
use Rattle.syntax.specs.Words.{of_word}
use Rattle.syntax.specs.Check.{Come}
use Rattle.line_check.proofs.Searching.{Left}
use Rattle.line_check.proofs.earlier.is_earlier.Given as goal

abbrev pub invariant-loop-scanner : goal.invariant-loop-scanner
invariant-loop-scanner l = record {
  text : text_of l.scanner ≡ text_of l.line;
  left : (ts : List Tok) → of_word l.word ≡ name l.word → Come (text_of l.line) (pos_of l.line) ts l.end → Left (text_of l.line) (pos_of l.scanner) l.word ts l.end;
}

abbrev pub decreases-loop-scanner : goal.decreases-loop-scanner
decreases-loop-scanner l = length (text_of l.line) - pos_of l.scanner
