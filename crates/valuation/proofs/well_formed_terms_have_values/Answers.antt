use Rattle.valuation.proofs.Values.{formed_has_value}
use Rattle.valuation.proofs.well_formed_terms_have_values.Goals as goal

pub returns : goal.returns
returns g c = let p = g.met.P.Provider in formed_has_value (record { halves = p.halves; mates = p.mates; seals = p.seals; builds = p.builds })
