use Rattle.valuation.proofs.States.{terms_have_values}
use Rattle.valuation.proofs.every_term_has_a_value.Goals as goal

pub returns : goal.returns
returns g c = let p = g.met.P.Provider in terms_have_values (record { halves = p.halves; mates = p.mates; seals = p.seals; builds = p.builds })
