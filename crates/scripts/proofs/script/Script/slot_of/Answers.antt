use Rattle.std.proofs.Common.{◌≡◌, true, false, rules, tests}
use Rattle.std.proofs.lemmas.Iterator.{IsFirst-from_position, YieldsList-from_slice}
use Rattle.scripts.specs.Lines.{is_number}
use Rattle.scripts.specs.View.{written}
use Rattle.scripts.proofs.Slots.{slot_first}
use Rattle.scripts.proofs.script.Script.slot_of.Goals as goal

pub returns : goal.returns
returns c =
    let t = c.args.term in
    slot_first t (written c.args.self.now) c.position.result
    (IsFirst-from_position _ _ _ (λ l. is_number t l.holds ≡ true) (λ l. is_number t l.holds ≡ false) c.position.ensures.ran (YieldsList-from_slice (written c.args.self.now) cc) (λ x q k. search (rules, tests)) (λ x q k. search (rules, tests)))
