use Rattle.std.proofs.Common.{◌≡◌, rules}
use Rattle.std.specs.Option.{ok_or, option_map}
use Rattle.provider.specs.declared.ProviderError.TheVariants.{Wrong}
use Rattle.symbolic_provider.proofs.Parts.{left_done}
use Rattle.symbolic_provider.proofs.store.SymbolicProvider.make_left.Goals as goal

pub returns : goal.returns
returns c =
    let is : c.ok_or.result ≡ ok_or (option_map (λ p. p.0) c.parts_at.result) Wrong = search rules in
    rw is (left_done c.args.self.now c.args.joined c.parts_at.result c.parts_at.ensures)
