use Rattle.std.proofs.Common.{◌≤◌, length, refl, ◌∙◌, arith, rules, length-take-le}
use Rattle.console.proofs.Lending.{runs_on}
use Rattle.console.proofs.workspace.Workspace.run.Goals as goal

pub returns : goal.returns
returns g c =
    let w = c.args.self.now in
    let size : 512 ≤ length w.readings = search rules in
    let few : w.lent.readings ≤ length w.readings = omega (arith, size, w.lent.few_readings) in
    runs_on _ _ _ w _ c.run.result _ _ c.run.new.readings c.run.new.slots (c.run.auto.readings ∙ length-take-le w.lent.readings w.readings few) refl refl refl c.run.ensures.whole
