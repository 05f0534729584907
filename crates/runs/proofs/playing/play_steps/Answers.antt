use Rattle.std.proofs.Common.{◌+◌, ◌≤◌, length, get_or, drop, refl, ap, arith, rules}
use Rattle.std.proofs.lemmas.Result.{err_from_is_err_and}
use Rattle.terms.specs.Listed.{listed}
use Rattle.protocol.specs.declared.step.Step.{Step}
use Rattle.protocol.specs.View.{lines_of, steps_of, view_of}
use Rattle.protocol.proofs.Reading.{step_read, steps_few}
use Rattle.runs.specs.Tasks.{both_tasks, step_tasks}
use Rattle.runs.specs.Whole.{steps_tasks_of}
use Rattle.runs.proofs.Rests.{rest_all, rest_more, rest_stop, rest_end, steps_more, steps_end}
use Rattle.runs.proofs.playing.play_steps.Goals as goal

pub loop-number-init : goal.loop-number-init
loop-number-init g c =
    let p = g.P.Provider in
    let a = c.args in
    let k = a.protocol.now in
    let all = steps_tasks_of a.protocol.now in
    record { few = omega arith; rest = rest_all p.algebra p.meaning (listed k.terms) (lines_of k) a.readings.now all all a.provider.now a.slots.now refl }

pub returns-in_err-sames : goal.returns-in_err-sames
returns-in_err-sames g c =
    let st = view_of c.args.protocol.now in
    let ss = steps_of c.args.protocol.now in
    let i = c.loop-number.number in
    let d : Step = record { sender = 0; receiver = 0; message = 0; sent = 0; received = 0; heard = 0 } in
    let x = get_or c.granted_steps-step-items.result.now i d in
    let at = step_read c.args.protocol.now _ c.granted_steps-step-items.ensures i d c.loop-number-test.true in
    let q = err_from_is_err_and c.from_residual.result c.from_residual.ensures.1 in
    rw (q.1, q.2) (record {
      whole = rest_stop c.loop-number.invariant.rest (both_tasks st i x) (step_tasks st (i + 1) (drop (i + 1) ss)) (steps_more st ss i x at)
          c.in_err-sames.field-0.0 c.play_step.new.provider c.play_step.new.slots c.in_err-sames.ensures.whole;
      few = tt;
    })

pub overflow_add-sames : goal.overflow_add-sames
overflow_add-sames g c =
    let k = c.args.protocol.now in
    let h : c.loop-number.sames + c.in_ok-sames.field-0 ≤ 100000 =
    omega (arith, c.loop-number.invariant.few, c.in_ok-sames.ensures.few, c.loop-number-test.true, ap length c.granted_steps-step-items.ensures, steps_few k) in
    search rules

pub loop-number-preserved : goal.loop-number-preserved
loop-number-preserved g c =
    let st = view_of c.args.protocol.now in
    let ss = steps_of c.args.protocol.now in
    let i = c.loop-number.number in
    let d : Step = record { sender = 0; receiver = 0; message = 0; sent = 0; received = 0; heard = 0 } in
    let x = get_or c.granted_steps-step-items.result.now i d in
    let at = step_read c.args.protocol.now _ c.granted_steps-step-items.ensures i d c.loop-number-test.true in
    record {
      few = omega (arith, c.loop-number.invariant.few, c.in_ok-sames.ensures.few);
      rest = rest_more c.loop-number.invariant.rest (both_tasks st i x) (step_tasks st (i + 1) (drop (i + 1) ss)) (steps_more st ss i x at)
          c.in_ok-sames.field-0 c.play_step.new.provider c.play_step.new.slots c.in_ok-sames.ensures.whole;
    }

pub returns : goal.returns
returns g c =
    let k = c.args.protocol.now in
    let i = c.loop-number.number in
    let past : length (steps_of k) ≤ i = omega (arith, c.loop-number-test.false, ap length c.granted_steps-step-items.ensures) in
    record {
      whole = rest_end c.loop-number.invariant.rest (steps_end (view_of c.args.protocol.now) (steps_of k) i past);
      few = omega (arith, c.loop-number.invariant.few, c.loop-number.auto.number-end, ap length c.granted_steps-step-items.ensures, steps_few k);
    }
