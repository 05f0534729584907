use Rattle.std.proofs.Common.{refl}
use Rattle.scan.specs.Tokens as lexemes
use Rattle.syntax.specs.Grammar.{stray}
use Rattle.syntax.proofs.check.next_sign.Goals as goal

pub returns-in-Err-clause-signs : goal.returns-in-Err-clause-signs
returns-in-Err-clause-signs c =
    record { token = stray; comes = record { lexeme = lexemes.stray; next = c.in-Err.ensures.next; is = refl }; is = refl }
