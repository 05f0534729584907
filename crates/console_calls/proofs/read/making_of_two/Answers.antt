use Rattle.std.proofs.Common.{◌≡◌, sym, ap, codes, arith}
use Rattle.std.proofs.lemmas.Slice.Eq.{text_from_reads}
use Rattle.console_calls.specs.Calls.{making_two}
use Rattle.console_calls.proofs.read.making_of_two.Goals as goal

pub returns-in-digest : goal.returns-in-digest
returns-in-digest c =
    let w = c.args.word.now in
    let word : w ≡ codes "digest" = text_from_reads w (codes "digest") (omega arith) (omega arith, (omega arith, (omega arith, (omega arith, (omega arith, (omega arith, tt)))))) in
    ap (λ v. making_two v c.args.a c.args.b) (sym word)
