-- Refusals by number.
use Rattle.std.specs.Prelude.{ℕ}
use Rattle.listing.specs.declared.refusal.ListingError.{ListingError}
use Rattle.listing.specs.declared.refusal.ListingError.TheVariants.{Unknown, Short}

-- the number of a refusal
abbrev pub number_of : ListingError → ℕ
number_of Unknown = 1
number_of Short = 21
