use Rattle.std.proofs.Common.{◌≡◌, sym, ap, codes, arith}
use Rattle.std.proofs.lemmas.Slice.Eq.{text_from_reads}
use Rattle.console_calls.specs.Calls.{choice}
use Rattle.console_calls.proofs.read.choice_of.Goals as goal

pub returns-in-symbolic : goal.returns-in-symbolic
returns-in-symbolic c =
    let w = c.args.word.now in
    let word : w ≡ codes "symbolic" = text_from_reads w (codes "symbolic") (omega arith) (omega arith, (omega arith, (omega arith, (omega arith, (omega arith, (omega arith, (omega arith, (omega arith, tt)))))))) in
    ap choice (sym word)
