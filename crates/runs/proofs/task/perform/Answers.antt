use Rattle.std.proofs.Common.{◌<◌, ◌≤◌, [], Ok, sym, refl, arith}
use Rattle.std.proofs.lemmas.List.{get_or_past}
use Rattle.scripts.specs.View.{written}
use Rattle.acting.specs.declared.halt.Halt.{Halt}
use Rattle.protocol.specs.View.{lines_of}
use Rattle.runs.specs.Memory.{lines_at, base_of}
use Rattle.runs.proofs.Bases.{read_nth}
use Rattle.runs.proofs.Rests.{few_outcome, none_carried, carry_is}
use Rattle.runs.proofs.task.perform.Goals as goal

pub returns-in_default : goal.returns-in_default
returns-in_default g c =
    let p = g.P.Provider in
    let a = c.args in
    let t = a.task in
    let ps = lines_of a.protocol.now in
    record {
      whole = (
        c.part_of-part.result,
        Ok 0,
        c.part_of-part.ensures,
        none_carried p.algebra p.meaning a.readings.now c.part_of-part.result (base_of ps t.party) (lines_at ps t.party) t.start t.end a.provider.now a.slots.now (get_or_past ps t.party [] c.in_default.ensures),
        refl,
      );
      few = omega arith;
    }

pub returns : goal.returns
returns g c =
    let p = g.P.Provider in
    let a = c.args in
    let t = a.task in
    let ps = lines_of a.protocol.now in
    let ls = written c.in-Some.script.now in
    record {
      whole = (
        c.part_of-part.result,
        c.carry_out-done.result,
        c.part_of-part.ensures,
        carry_is p.algebra p.meaning a.readings.now c.part_of-part.result c.base_of-base.result (base_of ps t.party) ls (lines_at ps t.party) t.start t.end a.provider.now a.slots.now
            c.carry_out-done.result c.carry_out-done.new.provider c.carry_out-done.new.slots c.base_of-base.ensures (sym (read_nth ps t.party ls [] c.in-Some.ensures)) c.carry_out-done.ensures.whole,
        c.outcome.ensures,
      );
      few = few_outcome t c.carry_out-done.result c.outcome.result (λ (h : Halt). (t.start ≤ h.at) × (h.at < t.end)) c.outcome.ensures c.carry_out-done.ensures.bounds;
    }
