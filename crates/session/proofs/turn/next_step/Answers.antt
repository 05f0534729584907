use Rattle.std.proofs.Common.{◌≡◌, Some, false, true, refl, rules}
use Rattle.rules.specs.State.{nth}
use Rattle.protocol.specs.declared.step.Step.{Step}
use Rattle.protocol.specs.View.{steps_of}
use Rattle.session.specs.Turns.{takes_part}
use Rattle.session.proofs.Searching.{found}
use Rattle.session.proofs.Lowest.{next_found, next_only}
use Rattle.session.proofs.turn.next_step.Goals as goal

lowest : goal.returns-clause-lowest
lowest c =
    let xs = steps_of c.args.protocol.now in
    let p = c.args.party in
    next_found xs c.args.from p c.steps.result c.steps.ensures c.find_map.result
    (found _ _ _ c.args.from c.steps.result refl (λ k. (x : Step) → nth xs k ≡ Some x → takes_part x p ≡ false) (λ k y. (y.0 ≡ k) × (nth xs k ≡ Some y.1) × (takes_part y.1 p ≡ true))
    (λ a r f q. search rules) (λ k q x e. search rules) (λ k y q. search rules) c.find_map.result c.find_map.ensures.runs)

pub returns-clause-lowest : goal.returns-clause-lowest
returns-clause-lowest c = lowest c

pub returns-clause-is : goal.returns-clause-is
returns-clause-is c = next_only (steps_of c.args.protocol.now) c.args.from c.args.party c.find_map.result (lowest c)
