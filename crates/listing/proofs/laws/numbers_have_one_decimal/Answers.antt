use Rattle.listing.proofs.Decimal.{numbers_have_one_decimal_lem}
use Rattle.listing.proofs.laws.numbers_have_one_decimal.Goals as goal

pub returns : goal.returns
returns c = numbers_have_one_decimal_lem
