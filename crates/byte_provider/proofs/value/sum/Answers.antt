use Rattle.std.proofs.Common.{◌≡◌, ◌+◌, ◌%◌, ◌∙◌, rules}
use Rattle.std.specs.List.{fold}
use Rattle.byte_provider.proofs.Sums.{fold_sum}
use Rattle.byte_provider.proofs.value.sum.Goals as goal

pub returns : goal.returns
returns c =
    let e : c.fold.result ≡ fold (λ s b. (s + b) % 256) 0 c.args.value.now = search rules in
    e ∙ fold_sum c.args.value.now
