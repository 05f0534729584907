use Rattle.listing.proofs.Apart.{listings_tell_scripts_apart_lem}
use Rattle.listing.proofs.laws.listings_tell_scripts_apart.Goals as goal

pub returns : goal.returns
returns c = listings_tell_scripts_apart_lem
