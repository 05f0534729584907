use Rattle.std.proofs.Common.{◌≡◌, ℕ, length, Some, None, Ok, sym, refl, subst, arith, rules}
use Rattle.std.proofs.lemmas.Result.{err_from_is_err_and}
use Rattle.rules.proofs.Nth.{nth_past}
use Rattle.terms.specs.Listed.{listed}
use Rattle.acting.specs.Loading.{Loads}
use Rattle.acting.proofs.Lines.{has_nth}
use Rattle.acting.proofs.Rests.{rest_more, rest_stop, rest_out, rest_end}
use Rattle.acting.proofs.loading.load_terms.Goals as goal

pub loop-term-init : goal.loop-term-init
loop-term-init g c = record { does = λ r s' hs' a. a }

pub returns-in_default : goal.returns-in_default
returns-in_default g c =
    let ts = listed c.args.terms.now in
    rest_out ts (length c.args.readings.now) c.loop-term.invariant None (sym (nth_past ts c.loop-term.term-counter c.in_default.ensures.reads)) refl

pub returns-in_err-readings : goal.returns-in_err-readings
returns-in_err-readings g c =
    let ts = listed c.args.terms.now in
    let x = c.in-Some.node in
    let e = err_from_is_err_and c.from_residual.result c.from_residual.ensures.1 in
    rw (e.1, e.2)
    (rest_stop ts (length c.args.readings.now) c.loop-term.invariant x (Some x) c.make-made.new.provider c.make-made.result c.map_err.result _ c.loop-term-test.true
    (sym (has_nth ts c.loop-term.term-counter x c.in-Some.ensures.reads)) refl c.make-made.ensures c.map_err.ensures.cases c.in_err-readings.field-0.0 c.in_err-readings.was (λ x h q. search rules))

pub loop-term-preserved : goal.loop-term-preserved
loop-term-preserved g c =
    let ts = listed c.args.terms.now in
    let x = c.in-Some.node in
    rest_more ts (length c.args.readings.now) c.loop-term.invariant x (Some x) c.make-made.new.provider c.make-made.result c.map_err.result _ c.loop-term-test.true
    (sym (has_nth ts c.loop-term.term-counter x c.in-Some.ensures.reads)) refl c.make-made.ensures c.map_err.ensures.cases c.in_ok-readings.field-0 c.in_ok-readings.was

pub returns : goal.returns
returns g c =
    let p = g.P.Provider in
    let ts = listed c.args.terms.now in
    let n : c.loop-term.term-counter ≡ length c.loop-term.readings = omega (arith, c.loop-term-test.false, c.loop-term.auto.readings, c.loop-term.auto.term-counter-end) in
    subst (λ (k : ℕ). Loads p.algebra p.meaning ts c.args.provider.now c.args.readings.now (Ok k) c.loop-term.provider c.loop-term.readings) n
    (rest_end ts (length c.args.readings.now) c.loop-term.invariant c.loop-term-test.false)
