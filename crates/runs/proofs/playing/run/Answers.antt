use Rattle.std.proofs.Common.{length}
use Rattle.std.proofs.lemmas.Bool.{and_parts}
use Rattle.terms.specs.Listed.{listed}
use Rattle.terms.proofs.Listed.{orderly, listed_few}
use Rattle.valuation.specs.Law.{Lawful}
use Rattle.protocol.specs.States.{scripts_known, steps_known}
use Rattle.protocol.specs.View.{lines_of, steps_of}
use Rattle.runs.proofs.Keeping.{run_keeps}
use Rattle.runs.proofs.Right.{run_law, run_refused}
use Rattle.runs.proofs.playing.run.Goals as goal

pub returns : goal.returns
returns g c =
    let p = g.P.Provider in
    let q = g.met.P.Provider in
    let a = c.args in
    let d = c.try_run in
    let k = a.protocol.now in
    let n = length (listed k.terms) in
    let law : Lawful p.proper p.algebra = record { halves = q.halves; mates = q.mates; seals = q.seals; builds = q.builds } in
    let known = (and_parts (scripts_known n (lines_of k)) (steps_known n (steps_of k)) a.protocol.now.known).0 in
    record {
      whole = d.ensures;
      memory = run_refused law p.meaning q.holds (listed k.terms) (lines_of k) (steps_of k) a.provider.now a.readings.now a.slots.now d.result d.new.provider d.new.readings d.new.slots d.ensures;
      keeps = run_keeps p.algebra p.meaning (listed k.terms) (lines_of k) (steps_of k) a.provider.now a.readings.now a.slots.now d.result d.new.provider d.new.readings d.new.slots d.ensures a.protocol.now.came;
      law = run_law law p.meaning q.holds (listed k.terms) (lines_of k) (steps_of k) a.provider.now a.readings.now a.slots.now d.result d.new.provider d.new.readings d.new.slots d.ensures
          (orderly k.terms) (listed_few k.terms) known;
    }
