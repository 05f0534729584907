use Rattle.std.proofs.Common.{ap, ◌∙◌}
use Rattle.byte_provider.specs.Values.{left_size}
use Rattle.byte_provider.proofs.Planning.{left_plan, right_plan}
use Rattle.byte_provider.proofs.store.ByteProvider.halves.Goals as goal

pub returns : goal.returns
returns c =
    let s = c.args.self.now in
    let e = c.in_ok-len.ensures ∙ ap left_size c.part.ensures in
    (left_plan s c.args.joined c.in_ok-len.len c.in_ok-pair.pair c.in_ok-pair.ensures e, right_plan s c.args.joined c.in_ok-len.len c.in_ok-pair.pair c.in_ok-pair.ensures e)
