use Rattle.std.proofs.Common.{◌≡◌, ◌+◌, length, reverse, ap, ◌∙◌, arith}
use Rattle.bounded.specs.Items.{items}
use Rattle.syntax.specs.Machine.{at}
use Rattle.syntax.proofs.Stacks.{without_last, length_under}
use Rattle.syntax.proofs.machine.Machine.pop.Goals as goal

pub returns : goal.returns
returns c = λ f fs e.
    let was = items c.args.self.now.frames in
    let long = length_under was f fs e in
    let n : c.saturating_sub.result + 1 ≡ length was = omega (arith, c.saturating_sub.ensures, c.len.ensures.is) in
    record {
      taken = (
        ap (at c.args.mode) (ap reverse c.truncate.ensures ∙ without_last was f fs c.saturating_sub.result e n),
        omega (arith, c.len.ensures.is, c.len.ensures.few, c.requires),
      );
    }
