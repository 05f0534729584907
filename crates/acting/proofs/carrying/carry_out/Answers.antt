use Rattle.scripts.specs.View.{written}
use Rattle.scripts.proofs.Writing.{written_few}
use Rattle.valuation.specs.Law.{Lawful}
use Rattle.acting.proofs.Parts.{part_stands, part_keeps, part_bounded}
use Rattle.acting.proofs.carrying.carry_out.Goals as goal

pub returns : goal.returns
returns g c =
    let p = g.P.Provider in
    let q = g.met.P.Provider in
    let a = c.args in
    let ls = written a.script.now in
    let law : Lawful p.proper p.algebra = record { halves = q.halves; mates = q.mates; seals = q.seals; builds = q.builds } in
    let few = written_few a.script.now in
    record {
      whole = c.carry.ensures;
      keeps = part_keeps p.algebra p.meaning a.readings.now a.part a.base ls a.range.start a.range.end a.provider.now a.slots.now c.carry.result c.carry.new.provider c.carry.new.slots c.carry.ensures;
      bounds = part_bounded p.algebra p.meaning a.readings.now a.part a.base ls a.range.start a.range.end a.provider.now a.slots.now c.carry.result c.carry.new.provider c.carry.new.slots c.carry.ensures few;
      stands = part_stands law p.meaning q.holds a.readings.now a.part a.base ls a.range.start a.range.end a.provider.now a.slots.now c.carry.result c.carry.new.provider c.carry.new.slots c.carry.ensures;
    }
