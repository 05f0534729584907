use Rattle.std.proofs.Common.{◌≡◌, ◌-◌, length, ap, ◌∙◌, arith}
use Rattle.std.specs.Option.{unwrap_or}
use Rattle.bounded.specs.Items.{items}
use Rattle.table_text.proofs.Paired.{at_last}
use Rattle.table_text.proofs.pairing.pop.Goals as goal

pub returns-clause-last : goal.returns-clause-last
returns-clause-last c = λ front a e.
    let i : c.saturating_sub-last.result ≡ length (items c.args.parts.now) - 1 = omega (arith, c.saturating_sub-last.ensures, c.len.ensures.is) in
    let last = at_last (items c.args.parts.now) front a c.saturating_sub-last.result e i in
    (c.unwrap_or-part.ensures ∙ ap (λ z. unwrap_or z 0) c.get.ensures ∙ last.0, c.truncate.ensures ∙ last.1)
