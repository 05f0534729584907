use Rattle.std.proofs.Common.{Ok, Err}
use Rattle.std.proofs.lemmas.Result.{err_from_is_err_and}
use Rattle.terms.specs.Listed.{listed}
use Rattle.protocol.specs.View.{lines_of}
use Rattle.runs.specs.Whole.{starts_of, steps_tasks_of}
use Rattle.runs.proofs.Rests.{tasks_then, tasks_stop}
use Rattle.runs.proofs.playing.play_all.Goals as goal

pub returns-in_err-started : goal.returns-in_err-started
returns-in_err-started g c =
    let p = g.P.Provider in
    let a = c.args in
    let k = a.protocol.now in
    let q = err_from_is_err_and c.from_residual.result c.from_residual.ensures.1 in
    rw (q.1, q.2)
    (tasks_stop p.algebra p.meaning (listed k.terms) (lines_of k) a.readings.now (starts_of a.protocol.now) (steps_tasks_of a.protocol.now)
    a.provider.now a.slots.now c.in_err-started.field-0.0 c.start_parties.new.provider c.start_parties.new.slots c.in_err-started.ensures.whole)

pub returns-in_err-played : goal.returns-in_err-played
returns-in_err-played g c =
    let p = g.P.Provider in
    let a = c.args in
    let k = a.protocol.now in
    let q = err_from_is_err_and c.from_residual-in_err-played.result c.from_residual-in_err-played.ensures.1 in
    rw (q.1, q.2)
    (tasks_then p.algebra p.meaning (listed k.terms) (lines_of k) a.readings.now (starts_of a.protocol.now) (steps_tasks_of a.protocol.now)
    a.provider.now a.slots.now c.in_ok-started.started c.start_parties.new.provider c.start_parties.new.slots
    (Err c.in_err-played.field-0.0) c.play_steps.new.provider c.play_steps.new.slots c.in_ok-started.ensures.whole c.in_err-played.ensures.whole)

pub returns : goal.returns
returns g c =
    let p = g.P.Provider in
    let a = c.args in
    let k = a.protocol.now in
    tasks_then p.algebra p.meaning (listed k.terms) (lines_of k) a.readings.now (starts_of a.protocol.now) (steps_tasks_of a.protocol.now)
    a.provider.now a.slots.now c.in_ok-started.started c.start_parties.new.provider c.start_parties.new.slots
    (Ok c.in_ok-played.played) c.play_steps.new.provider c.play_steps.new.slots c.in_ok-started.ensures.whole c.in_ok-played.ensures.whole
