use Rattle.std.proofs.Common.{◌+◌, ◌-◌, ◌<◌, length, subst, sym, ◌∙◌}
use Rattle.scan.specs.Tokens.{text_of, pos_of}
use Rattle.syntax.specs.Check.{Signs}
use Rattle.syntax.proofs.Lines.{refuses, one_more, smaller, left}
use Rattle.syntax.proofs.check.check_line.Goals as goal

pub returns-in-Err-clause-checks : goal.returns-in-Err-clause-checks
returns-in-Err-clause-checks c =
    let i = c.loop-machine.invariant in
    let s = c.next_sign-sign in
    let signs = subst (λ z. Signs z (pos_of c.loop-machine.scanner) s.result.0 s.result.1 (pos_of s.new.scanner)) i.text s.ensures.signs in
    refuses _ _ _ _ i.read s.result.0 s.result.1 _ signs c.step.new.self c.in-Err.fault c.loop-machine-test.ensures c.in-Err.ensures.steps

pub loop-machine-smaller : goal.loop-machine-smaller
loop-machine-smaller c =
    let i = c.loop-machine.invariant in
    let s = c.next_sign-sign in
    let signs = subst (λ z. Signs z (pos_of c.loop-machine.scanner) s.result.0 s.result.1 (pos_of s.new.scanner)) i.text s.ensures.signs in
    subst (λ z. length z - pos_of s.new.scanner + left c.step.new.self.mode < length (text_of c.loop-machine.scanner) - pos_of c.loop-machine.scanner + left c.loop-machine.machine.mode)
    (sym (s.ensures.text ∙ i.text))
    (subst (λ z. length (text_of c.args.scanner.now) - pos_of s.new.scanner + left c.step.new.self.mode < length z - pos_of c.loop-machine.scanner + left c.loop-machine.machine.mode)
    (sym i.text)
    (smaller _ _ _ _ i.read s.result.0 s.result.1 _ signs c.step.new.self c.in_default.field-0 c.loop-machine-test.ensures c.in_default.ensures.steps))

pub loop-machine-preserved : goal.loop-machine-preserved
loop-machine-preserved c =
    let i = c.loop-machine.invariant in
    let s = c.next_sign-sign in
    let signs = subst (λ z. Signs z (pos_of c.loop-machine.scanner) s.result.0 s.result.1 (pos_of s.new.scanner)) i.text s.ensures.signs in
    record {
      read = one_more _ _ _ _ i.read s.result.0 s.result.1 _ signs c.step.new.self c.in_default.field-0 c.in_default.ensures.steps;
      text = s.ensures.text ∙ i.text;
    }
