use Rattle.std.proofs.Common.{◌≡◌, sym, ap, ◌∙◌, codes, arith}
use Rattle.std.proofs.lemmas.Slice.Eq.{text_from_reads}
use Rattle.console_calls.specs.Calls.{call_two}
use Rattle.console_calls.proofs.read.call_of_two.Goals as goal

pub returns-in-provider : goal.returns-in-provider
returns-in-provider c =
    let w = c.args.word.now in
    let word : w ≡ codes "provider" = text_from_reads w (codes "provider") (omega arith) (omega arith, (omega arith, (omega arith, (omega arith, (omega arith, (omega arith, (omega arith, (omega arith, tt)))))))) in
    c.choice_of.ensures ∙ ap (λ v. call_two v c.args.a.now) (sym word)
