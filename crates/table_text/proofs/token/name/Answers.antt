use Rattle.std.proofs.Common.{◌≡◌}
use Rattle.syntax.specs.Grammar.{name, stray}
use Rattle.table_text.proofs.token.name.Goals as goal

pub returns-in-Some-clause-name : goal.returns-in-Some-clause-name
returns-in-Some-clause-name c = λ w ts ahead. let h = c.in-Some.ensures.next (name w) ts ahead in (c.number_of.ensures w h.0, h.1)

pub returns-in-None-clause-name : goal.returns-in-None-clause-name
returns-in-None-clause-name c = λ w ts ahead. let h = c.in-None.ensures.next (name w) ts ahead in let e : name w ≡ stray = h.0 in cc
