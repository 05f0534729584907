use Rattle.std.proofs.Common.{◌-◌, ◌≤◌, min, length}
use Rattle.scripts.specs.View.{written}
use Rattle.acting.specs.Carrying.{line_act, line_tally, slot_from, between}
use Rattle.acting.proofs.Rests.{Rest}
use Rattle.acting.proofs.carrying.carry.Given as goal

abbrev pub invariant-loop-at : goal.invariant-loop-at
invariant-loop-at g l =
    let end = min l.fn.range.end (length l.initial.slots - l.base) in
    record {
      few : l.sames ≤ l.at-counter;
      rest : Rest g.P.Provider.algebra g.P.Provider.meaning (line_act l.readings l.part l.base) line_tally (slot_from l.base) (between l.at-counter end (written l.script)) l.at-counter l.sames l.provider l.slots
          (between l.fn.range.start end (written l.script)) l.fn.range.start l.initial.provider l.initial.slots;
    }
