use Rattle.std.proofs.Common.{◌≡◌, sym, ap, codes, arith}
use Rattle.std.proofs.lemmas.Slice.Eq.{text_from_reads}
use Rattle.console_calls.specs.Calls.{with_two}
use Rattle.console_calls.proofs.read.call_with_two.Goals as goal

pub returns-in-memory : goal.returns-in-memory
returns-in-memory c =
    let w = c.args.word.now in
    let word : w ≡ codes "memory" = text_from_reads w (codes "memory") (omega arith) (omega arith, (omega arith, (omega arith, (omega arith, (omega arith, (omega arith, tt)))))) in
    ap (λ v. with_two v c.args.a c.args.b) (sym word)
