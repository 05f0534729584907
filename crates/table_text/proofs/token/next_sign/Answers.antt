use Rattle.std.proofs.Common.{ap, sym, ◌∙◌}
use Rattle.syntax.specs.Grammar.{sign}
use Rattle.table_text.proofs.token.next_sign.Goals as goal

pub returns-in-Some-clause-next : goal.returns-in-Some-clause-next
returns-in-Some-clause-next c = λ t ts ahead. let h = c.in-Some.ensures.next t ts ahead in (ap sign h.0 ∙ sym c.sign_of.ensures, h.1)

pub returns-in-None-clause-next : goal.returns-in-None-clause-next
returns-in-None-clause-next c = λ t ts ahead. let h = c.in-None.ensures.next t ts ahead in (ap sign h.0, h.1)
