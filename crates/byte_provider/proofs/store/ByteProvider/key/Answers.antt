use Rattle.std.proofs.Common.{ap, ◌∙◌}
use Rattle.byte_provider.specs.Values.{key_type}
use Rattle.byte_provider.proofs.Planning.{is_key}
use Rattle.byte_provider.proofs.store.ByteProvider.key.Goals as goal

pub returns : goal.returns
returns c =
    is_key c.args.self.now c.args.key c.in_ok-span.span c.body.result c.in_ok-kind.kind c.in_ok-span.ensures (c.in_ok-kind.ensures ∙ ap key_type c.part.ensures) c.body.ensures
