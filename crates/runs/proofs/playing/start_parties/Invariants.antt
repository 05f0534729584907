use Rattle.std.proofs.Common.{◌-◌, ◌*◌, ◌≤◌, length}
use Rattle.terms.specs.Listed.{listed}
use Rattle.protocol.specs.View.{lines_of, view_of}
use Rattle.runs.specs.Tasks.{starts_from}
use Rattle.runs.specs.Whole.{starts_of}
use Rattle.runs.proofs.Rests.{Rest}
use Rattle.runs.proofs.playing.start_parties.Given as goal

abbrev pub invariant-loop-party : goal.invariant-loop-party
invariant-loop-party g l =
    let ps = lines_of l.protocol in
    record {
      below : l.party ≤ 8;
      few : l.sames ≤ 512 * l.party;
      rest : Rest g.P.Provider.algebra g.P.Provider.meaning (listed l.protocol.terms) ps l.readings (starts_from (view_of l.protocol) l.party (length ps - l.party)) l.sames l.provider l.slots
          (starts_of l.protocol) l.initial.provider l.initial.slots;
    }
