use Rattle.valuation.proofs.Slots.{slot_values}
use Rattle.valuation.proofs.slots_stand_for_their_terms.Goals as goal

pub returns : goal.returns
returns g c = let p = g.met.P.Provider in slot_values (record { halves = p.halves; mates = p.mates; seals = p.seals; builds = p.builds })
