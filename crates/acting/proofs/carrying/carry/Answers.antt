use Rattle.std.proofs.Common.{◌+◌, ◌-◌, ◌<◌, ◌≤◌, min, length, arith, rules}
use Rattle.std.proofs.lemmas.Result.{err_from_is_err_and}
use Rattle.scripts.specs.View.{written}
use Rattle.acting.proofs.Rests.{rest_more, rest_stop, rest_out, rest_end}
use Rattle.acting.proofs.carrying.carry.Goals as goal

pub loop-at-init : goal.loop-at-init
loop-at-init g c = record { few = omega arith; rest = record { does = λ r s' hs' a. a } }

pub returns-in_default : goal.returns-in_default
returns-in_default g c =
    let a = c.args in
    rest_out (written a.script.now) (min a.range.end (length a.slots.now - a.base)) c.loop-at.invariant.rest c.line.result c.line.ensures c.in_default.is

pub overflow_add-sames : goal.overflow_add-sames
overflow_add-sames g c =
    let h : c.loop-at.sames + c.comparisons.result ≤ c.loop-at.at-counter + 1 = omega (arith, c.comparisons.ensures.1, c.loop-at.invariant.few) in
    search rules

pub returns-in_err-slots : goal.returns-in_err-slots
returns-in_err-slots g c =
    let a = c.args in
    let end = min a.range.end (length a.slots.now - a.base) in
    let below : c.loop-at.at-counter < end = omega (arith, c.loop-at-test.true, c.min-at-end.ensures, c.saturating_sub-room.ensures) in
    let e = err_from_is_err_and c.from_residual.result c.from_residual.ensures.1 in
    rw (e.1, e.2)
    (rest_stop (written a.script.now) end c.loop-at.invariant.rest c.in-Some.line c.line.result c.act-done.new.provider c.act-done.result c.map_err.result _ below c.line.ensures c.in-Some.is
    c.act-done.ensures c.map_err.ensures.cases c.in_err-slots.field-0.0 c.in_err-slots.was (λ x h q. search rules))

pub loop-at-preserved : goal.loop-at-preserved
loop-at-preserved g c =
    let a = c.args in
    let end = min a.range.end (length a.slots.now - a.base) in
    let below : c.loop-at.at-counter < end = omega (arith, c.loop-at-test.true, c.min-at-end.ensures, c.saturating_sub-room.ensures) in
    record {
      few = omega (arith, c.comparisons.ensures.1, c.loop-at.invariant.few);
      rest = rw c.comparisons.ensures.0
          (rest_more (written a.script.now) end c.loop-at.invariant.rest c.in-Some.line c.line.result c.act-done.new.provider c.act-done.result c.map_err.result _ below c.line.ensures c.in-Some.is
          c.act-done.ensures c.map_err.ensures.cases c.in_ok-slots.field-0 c.in_ok-slots.was);
    }

pub returns : goal.returns
returns g c =
    let a = c.args in
    let end = min a.range.end (length a.slots.now - a.base) in
    let past : end ≤ c.loop-at.at-counter = omega (arith, c.loop-at-test.false, c.min-at-end.ensures, c.saturating_sub-room.ensures) in
    rest_end (written a.script.now) end c.loop-at.invariant.rest past
