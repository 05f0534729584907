use Rattle.scan.specs.Tokens.{text_of}
use Rattle.table_text.proofs.Tokens.{taken}
use Rattle.table_text.proofs.token.next.Goals as goal

pub returns-in-Ok-clause-next : goal.returns-in-Ok-clause-next
returns-in-Ok-clause-next c = λ t ts ahead. taken (text_of c.args.scanner.now) _ _ _ _ c.in-Ok.ensures.next t ts ahead

pub returns-in-Err-clause-next : goal.returns-in-Err-clause-next
returns-in-Err-clause-next c = λ t ts ahead. taken (text_of c.args.scanner.now) _ _ _ _ c.in-Err.ensures.next t ts ahead
