use Rattle.byte_provider.proofs.Planning.{located}
use Rattle.byte_provider.proofs.store.ByteProvider.span.Goals as goal

pub returns : goal.returns
returns c = rw c.get.ensures (located c.args.self.now c.args.handle)
