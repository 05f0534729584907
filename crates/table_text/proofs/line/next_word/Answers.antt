use Rattle.std.proofs.Common.{sym, subst}
use Rattle.table_text.specs.Lines.{IsWordOf}
use Rattle.table_text.proofs.line.next_word.Goals as goal

pub returns-clause-word : goal.returns-clause-word
returns-clause-word c = λ t ts h. let n = c.next.ensures.next t ts h in (subst (λ z. IsWordOf z c.word_of.result) (sym n.0) c.word_of.ensures, n.1)
