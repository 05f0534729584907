use Rattle.std.proofs.Common.{◌≡◌, ◌+◌, length, reverse, ap, subst, ◌∙◌, arith}
use Rattle.bounded.specs.Items.{items}
use Rattle.syntax.specs.declared.mode.Frame.TheVariants.{Later}
use Rattle.syntax.specs.Machine.{begins}
use Rattle.syntax.specs.States.{Takes}
use Rattle.syntax.proofs.Stacks.{with_last, length_under}
use Rattle.syntax.proofs.machine.Machine.part.Goals as goal

pub returns : goal.returns
returns c = λ f fs e.
    let was = items c.args.self.now.frames in
    let long = length_under was f fs e in
    let n : c.saturating_sub.result + 1 ≡ length was = omega (arith, c.saturating_sub.ensures, c.len.ensures.is) in
    subst (λ z. Takes (begins z c.args.sign) c.begin.result c.begin.new.self)
    (ap reverse c.replace.ensures.now ∙ with_last was f fs c.saturating_sub.result Later e n)
    c.begin.ensures
