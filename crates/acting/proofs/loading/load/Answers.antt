use Rattle.terms.specs.Listed.{listed}
use Rattle.terms.proofs.Listed.{orderly, listed_few}
use Rattle.valuation.specs.Law.{Lawful}
use Rattle.acting.proofs.Nodes.{load_stands, load_keeps, load_bounded}
use Rattle.acting.proofs.loading.load.Goals as goal

pub returns : goal.returns
returns g c =
    let p = g.P.Provider in
    let q = g.met.P.Provider in
    let t = c.args.terms.now in
    let d = c.load_terms in
    let law : Lawful p.proper p.algebra = record { halves = q.halves; mates = q.mates; seals = q.seals; builds = q.builds } in
    record {
      whole = d.ensures;
      keeps = load_keeps p.algebra p.meaning (listed t) c.args.provider.now c.args.readings.now d.result d.new.provider d.new.readings d.ensures;
      bounds = load_bounded p.algebra p.meaning (listed t) c.args.provider.now c.args.readings.now d.result d.new.provider d.new.readings d.ensures (listed_few t);
      stands = load_stands law p.meaning (listed t) (orderly t) (listed_few t) c.args.provider.now c.args.readings.now d.result d.new.provider d.new.readings d.ensures;
    }
