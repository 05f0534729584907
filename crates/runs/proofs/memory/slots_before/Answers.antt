use Rattle.std.proofs.Common.{◌≤◌, ◌∙◌, arith, rules}
use Rattle.std.specs.List.{range_with_len}
use Rattle.std.proofs.lemmas.Iterator.{YieldsList-from_range, YieldsList-from_map}
use Rattle.std.proofs.lemmas.Iterator.Consumers.{sum_by_from_yields_List, fits_by_from_yields_list}
use Rattle.protocol.specs.View.{lines_of}
use Rattle.protocol.proofs.Reading.{agents_few}
use Rattle.runs.specs.Memory.{own_slots, base_of}
use Rattle.runs.proofs.Bases.{base_min, base_sum, base_few}
use Rattle.runs.proofs.memory.slots_before.Goals as goal

pub sum-requires-clause-fits : goal.sum-requires-clause-fits
sum-requires-clause-fits c =
    let p = c.args.protocol.now in
    let ps = lines_of p in
    let few : base_of ps c.min.result ≤ 5000 = omega (arith, base_few p c.min.result, agents_few p, c.min.ensures, c.agents.ensures) in
    fits_by_from_yields_list (own_slots ps) (range_with_len 0 c.min.result) c.map.result _
    (YieldsList-from_map {s = c.map.result} _ (own_slots ps) (YieldsList-from_range 0 c.min.result c.min.result c.map.ensures.source (omega arith)) c.map.ensures.closure (λ x r q k. search rules))
    (omega (arith, base_sum ps c.min.result))

pub returns : goal.returns
returns c =
    let ps = lines_of c.args.protocol.now in
    sum_by_from_yields_List (own_slots ps) (range_with_len 0 c.min.result) c.map.result c.sum.result c.sum.ensures.ran
    (YieldsList-from_map {s = c.map.result} _ (own_slots ps) (YieldsList-from_range 0 c.min.result c.min.result c.map.ensures.source (omega arith)) c.map.ensures.closure (λ x r q k. search rules))
    ∙ base_sum ps c.min.result ∙ base_min ps c.args.party c.agents.result c.min.result c.agents.ensures c.min.ensures
