use Rattle.std.proofs.Common.{◌+◌, ◌-◌, ◌<◌, ◌≤◌, [], ◌∷◌, length, refl, arith, rules}
use Rattle.std.proofs.lemmas.Result.{err_from_is_err_and}
use Rattle.terms.specs.Listed.{listed}
use Rattle.protocol.specs.View.{lines_of, view_of}
use Rattle.protocol.proofs.Reading.{agents_few}
use Rattle.runs.specs.Tasks.{start_task, starts_from}
use Rattle.runs.specs.Whole.{starts_of}
use Rattle.runs.proofs.Rests.{rest_all, rest_more, rest_stop, rest_end, one_done, one_stop, starts_more, starts_end}
use Rattle.runs.proofs.playing.start_parties.Goals as goal

pub loop-party-init : goal.loop-party-init
loop-party-init g c =
    let p = g.P.Provider in
    let a = c.args in
    let k = a.protocol.now in
    let all = starts_of a.protocol.now in
    record { below = omega arith; few = omega arith; rest = rest_all p.algebra p.meaning (listed k.terms) (lines_of k) a.readings.now all all a.provider.now a.slots.now refl }

pub returns-in_err-sames : goal.returns-in_err-sames
returns-in_err-sames g c =
    let p = g.P.Provider in
    let a = c.args in
    let k = a.protocol.now in
    let st = view_of a.protocol.now in
    let n = length (lines_of k) in
    let i = c.loop-party.party in
    let x = c.in_err-sames.field-0.0 in
    let q = err_from_is_err_and c.from_residual.result c.from_residual.ensures.1 in
    let below : i < n = omega (arith, c.loop-party-test.true, c.agents-party-end.ensures) in
    rw (q.1, q.2) (record {
      whole = rest_stop c.loop-party.invariant.rest (start_task st i ∷ []) (starts_from st (i + 1) (n - (i + 1))) (starts_more st n i below) x c.perform.new.provider c.perform.new.slots
          (one_stop p.algebra p.meaning (listed k.terms) (lines_of k) a.readings.now c.start-task.result (start_task st i) c.loop-party.provider c.loop-party.slots x c.perform.new.provider c.perform.new.slots
          c.start-task.ensures c.in_err-sames.ensures.whole);
      few = tt;
    })

pub overflow_add-sames : goal.overflow_add-sames
overflow_add-sames g c =
    let h : c.loop-party.sames + c.in_ok-sames.field-0 ≤ 5000 = omega (arith, c.loop-party.invariant.below, c.loop-party.invariant.few, c.in_ok-sames.ensures.few) in
    search rules

pub loop-party-preserved : goal.loop-party-preserved
loop-party-preserved g c =
    let p = g.P.Provider in
    let a = c.args in
    let k = a.protocol.now in
    let st = view_of a.protocol.now in
    let n = length (lines_of k) in
    let i = c.loop-party.party in
    let b = c.in_ok-sames.field-0 in
    let below : i < n = omega (arith, c.loop-party-test.true, c.agents-party-end.ensures) in
    record {
      below = omega (arith, agents_few k, c.loop-party-test.true, c.agents-party-end.ensures);
      few = omega (arith, c.loop-party.invariant.few, c.in_ok-sames.ensures.few);
      rest = rest_more c.loop-party.invariant.rest (start_task st i ∷ []) (starts_from st (i + 1) (n - (i + 1))) (starts_more st n i below) b c.perform.new.provider c.perform.new.slots
          (one_done p.algebra p.meaning (listed k.terms) (lines_of k) a.readings.now c.start-task.result (start_task st i) c.loop-party.provider c.loop-party.slots b c.perform.new.provider c.perform.new.slots
          c.start-task.ensures c.in_ok-sames.ensures.whole);
    }

pub returns : goal.returns
returns g c =
    let st = view_of c.args.protocol.now in
    let n = length (lines_of c.args.protocol.now) in
    let i = c.loop-party.party in
    let past : n ≤ i = omega (arith, c.loop-party-test.false, c.agents-party-end.ensures) in
    record { whole = rest_end c.loop-party.invariant.rest (starts_end st n i past); few = omega (arith, c.loop-party.invariant.below, c.loop-party.invariant.few) }
