use Rattle.std.proofs.Common.{◌≡◌, arith, rules, sym, ◌∙◌}
use Rattle.scan.proofs.Runs.{all_more}
use Rattle.scan.proofs.byte.run_end.Goals as goal

pub loop-end-preserved : goal.loop-end-preserved
loop-end-preserved c =
    let e : c.of.result ≡ c.args.run = search rules in
    (omega arith, omega arith, all_more c.args.run c.args.text.now c.args.from c.loop-end.end c.loop-end.invariant.2 (sym c.of.ensures ∙ e))
