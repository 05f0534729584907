use Rattle.std.proofs.Common.{arith, ◌∙◌, rules, refl, zero-add}
use Rattle.scripts.specs.View.{written}
use Rattle.listing.specs.Listing.{listing_of}
use Rattle.listing.proofs.Lengths.{listing_few}
use Rattle.listing.proofs.Writes.{put_front}
use Rattle.listing.proofs.script.write.Goals as goal

pub lines-requires-2 : goal.lines-requires-2
lines-requires-2 c = rw c.lines.ensures (omega (arith, listing_few c.args.agent c.args.script.now))

pub returns-clause-front : goal.returns-clause-front
returns-clause-front c = λ h. put_front c.args.memory.now (listing_of c.args.agent (written c.args.script.now)) (search rules) (c.len.ensures ∙ c.lines-2.ensures.len ∙ (rw (c.new-text.ensures.len, c.lines.ensures, zero-add) refl)) h
