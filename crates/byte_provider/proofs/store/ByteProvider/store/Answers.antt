use Rattle.byte_provider.proofs.Storing.{stored_plan}
use Rattle.byte_provider.proofs.store.ByteProvider.store.Goals as goal

pub returns : goal.returns
returns c =
    let next = rw c.unwrap.ensures at c.push.ensures.ok in
    let place = rw c.unwrap.ensures at c.push.ensures.place in
    λ m f. rw place (stored_plan c.args.self.now _ c.args.plan c.write-span.result c.write-span.ensures next c.requires.room m f)
