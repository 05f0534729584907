use Rattle.std.proofs.lemmas.Result.{err_from_is_err_and}
use Rattle.std.proofs.Common.{arith}
use Rattle.terms.specs.Listed.{listed}
use Rattle.protocol.specs.View.{lines_of, view_of}
use Rattle.runs.specs.Tasks.{send_task, receive_task}
use Rattle.runs.proofs.Rests.{two_done, two_stop}
use Rattle.runs.proofs.playing.play_step.Goals as goal

pub returns-in_err-received : goal.returns-in_err-received
returns-in_err-received g c =
    let p = g.P.Provider in
    let a = c.args in
    let k = a.protocol.now in
    let q = err_from_is_err_and c.from_residual-in_err-received.result c.from_residual-in_err-received.ensures.1 in
    rw (q.1, q.2) (record {
      whole = two_stop p.algebra p.meaning (listed k.terms) (lines_of k) a.readings.now (send_task (view_of a.protocol.now) a.number a.step.now) (receive_task (view_of a.protocol.now) a.number a.step.now) c.send-send.result c.receive-receive.result
          a.provider.now a.slots.now c.in_ok-sent.sent c.perform.new.provider c.perform.new.slots c.in_err-received.field-0.0 c.perform-2.new.provider c.perform-2.new.slots
          c.send-send.ensures c.receive-receive.ensures c.in_ok-sent.ensures.whole c.in_err-received.ensures.whole;
      few = tt;
    })

pub returns : goal.returns
returns g c =
    let p = g.P.Provider in
    let a = c.args in
    let k = a.protocol.now in
    record {
      whole = two_done p.algebra p.meaning (listed k.terms) (lines_of k) a.readings.now (send_task (view_of a.protocol.now) a.number a.step.now) (receive_task (view_of a.protocol.now) a.number a.step.now) c.send-send.result c.receive-receive.result
          a.provider.now a.slots.now c.in_ok-sent.sent c.perform.new.provider c.perform.new.slots c.in_ok-received.received c.perform-2.new.provider c.perform-2.new.slots
          c.send-send.ensures c.receive-receive.ensures c.in_ok-sent.ensures.whole c.in_ok-received.ensures.whole;
      few = omega (arith, c.in_ok-sent.ensures.few, c.in_ok-received.ensures.few);
    }
