use Rattle.std.proofs.lemmas.Result.{err_from_is_err_and}
use Rattle.std.proofs.Common.{None, Ok, Err}
use Rattle.terms.specs.Listed.{listed}
use Rattle.scripts.specs.declared.instruction.Instruction.TheVariants.{Same}
use Rattle.scripts.specs.declared.instruction.Line.{Line}
use Rattle.scripts.proofs.View.{named_known}
use Rattle.scripts.proofs.Composing.{begins_on, pushed_begins}
use Rattle.scripts.proofs.Writing.{pushed_writes}
use Rattle.scripts.proofs.Walking.{first_stop, second_stop, compared_all, writes_unit}
use Rattle.scripts.proofs.script.Script.bring_known.Goals as goal

pub returns-in_err-slot-clause-compares : goal.returns-in_err-slot-clause-compares
returns-in_err-slot-clause-compares c = λ lt k b m e.
    let ts = listed c.args.terms.now in
    let s = c.args.self.now in
    let s1 = c.push.new.self in
    let q = err_from_is_err_and c.from_residual.result c.from_residual.ensures.1 in
    let l : Line = record { op = c.args.op; holds = None } in
    let x = c.in_err-slot.field-0.0 in
    rw (q.1, q.2) (first_stop ts s c.args.op c.args.term m e x s1 (pushed_writes ts s s1 l (Err x) c.in_err-slot.ensures k (tt, b)))

pub returns-in_err-made-clause-compares : goal.returns-in_err-made-clause-compares
returns-in_err-made-clause-compares c = λ lt k b m e.
    let ts = listed c.args.terms.now in
    let s = c.args.self.now in
    let s1 = c.push.new.self in
    let q = err_from_is_err_and c.from_residual-in_err-made.result c.from_residual-in_err-made.ensures.1 in
    let l : Line = record { op = c.args.op; holds = None } in
    let n = c.in_ok-slot.slot in
    let p = c.in_ok-slot.ensures in
    let one = pushed_writes ts s s1 l (Ok n) p k (tt, b) in
    rw (q.1, q.2) (second_stop ts s c.args.op c.args.term m e n s1 p.0 one.0 c.in_err-made.field-0.0 c.put.new.self (c.in_err-made.ensures.puts lt (named_known _ _ one.1)))

pub returns-in_err-push : goal.returns-in_err-push
returns-in_err-push c =
    let ts = listed c.args.terms.now in
    let s = c.args.self.now in
    let s1 = c.push.new.self in
    let s2 = c.put.new.self in
    let s3 = c.push-2.new.self in
    let q = err_from_is_err_and c.from_residual-in_err-push.result c.from_residual-in_err-push.ensures.1 in
    let n = c.in_ok-slot.slot in
    let made = c.in_ok-made.made in
    let x = c.in_err-push.field-0.0 in
    let l : Line = record { op = c.args.op; holds = None } in
    let l2 : Line = record { op = Same n made; holds = None } in
    let p = c.in_ok-slot.ensures in
    let w = c.in_ok-made.ensures in
    let z = c.in_err-push.ensures in
    record {
      grows = begins_on _ _ _ (begins_on _ _ _ (pushed_begins s s1 l (Ok n) p) w.grows) (pushed_begins s2 s3 l2 (Err x) z);
      compares = λ lt k b m e.
          let one = pushed_writes ts s s1 l (Ok n) p k (tt, b) in
          rw (q.1, q.2) (writes_unit ts _ x s3
          (compared_all ts s c.args.op c.args.term m e n s1 p.0 one.0 made s2 (w.puts lt (named_known _ _ one.1)) (w.names one.1) (Err x) s3 z));
    }

pub returns-clause-compares : goal.returns-clause-compares
returns-clause-compares c = λ lt k b m e.
    let ts = listed c.args.terms.now in
    let s = c.args.self.now in
    let s1 = c.push.new.self in
    let n = c.in_ok-slot.slot in
    let l : Line = record { op = c.args.op; holds = None } in
    let p = c.in_ok-slot.ensures in
    let w = c.in_ok-made.ensures in
    let one = pushed_writes ts s s1 l (Ok n) p k (tt, b) in
    compared_all ts s c.args.op c.args.term m e n s1 p.0 one.0 c.in_ok-made.made c.put.new.self (w.puts lt (named_known _ _ one.1)) (w.names one.1) (Ok c.in_ok-push.field-0) c.push-2.new.self c.in_ok-push.ensures
