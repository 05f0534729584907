use Rattle.std.proofs.Common.{refl, sym, arith}
use Rattle.scan.proofs.Runs.{some_run}
use Rattle.scan.proofs.scanner.calls.token_at.Goals as goal

pub returns-in-Word-clause-token : goal.returns-in-Word-clause-token
returns-in-Word-clause-token c =
    let e = c.run_end-end.ensures in
    record {
      some = some_run _ c.args.text.now _ _ (omega arith) (sym c.in-Word.ensures) e.low e.stops;
      within = e.within;
      bytes = refl;
      all = e.all;
      longest = e.stops;
    }
