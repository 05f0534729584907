use Rattle.std.proofs.Common.{◌≡◌, true, sym, ap, ◌∙◌}
use Rattle.std.proofs.Common.{Some}
use Rattle.scan.specs.declared.scanner.Token.{Token}
use Rattle.scan.specs.declared.scanner.Token.TheVariants.{Word}
use Rattle.scan.specs.Tokens.{lexeme}
use Rattle.names.specs.Names.{known}
use Rattle.syntax.specs.Grammar.{sign}
use Rattle.syntax.specs.Machine.{is_name}
use Rattle.syntax.specs.Words.{tok, of_word}
use Rattle.line_check.specs.Faults.{fault_after, name_fault}
use Rattle.line_check.proofs.Naming.{named_fault, word_is_name}
use Rattle.line_check.proofs.check.token_fault.Goals as goal

pub returns-in-Some-Word : goal.returns-in-Some-Word
returns-in-Some-Word c = λ ts come e.
    let w = c.in-Some-Word.word.now in
    let first : c.in-Some-Word.field-0 ≡ Word c.in-Some-Word.word = rw c.in-Some-Word.is at c.in-Some-Word.field-0-is in
    let here : tok (lexeme c.args.token) ≡ of_word w = ap (λ z. tok (lexeme z)) c.in-Some-Word.is ∙ ap (λ (z : Token). tok (lexeme (Some z))) first in
    let is : is_name (sign (of_word w)) ≡ true = sym (ap (λ z. is_name (sign z)) here) ∙ sym (ap is_name c.sign_of_found.ensures) ∙ sym c.is_name.ensures ∙ c.if-is_name.true in
    let earlier = c.is_again.ensures ts (word_is_name w is) come in
    c.name_fault.ensures ∙ ap (λ z. name_fault c.args.usage z c.is_again.result) c.get.ensures ∙ named_fault (known c.args.names.now) ts w c.args.usage c.is_again.result is e earlier
    ∙ ap (fault_after (known c.args.names.now) ts) (sym here)
