use Rattle.std.proofs.Common.{◌≡◌, Bool, true, false, sym, ◌∙◌}
use Rattle.table_text.proofs.token.passes.Goals as goal

pub returns-then-not-is-clause-passes : goal.returns-then-not-is-clause-passes
returns-then-not-is-clause-passes c = λ t ts ahead.
    let h = c.next_sign.ensures.next t ts ahead in
    (λ e. let f : ◌≡◌ {A = Bool} false true = sym c.if-not-is.true ∙ c.is.ensures.1 (sym h.0 ∙ e) in cc, ahead)

pub returns-clause-passes : goal.returns-clause-passes
returns-clause-passes c = λ t ts ahead. let h = c.next_sign.ensures.next t ts ahead in (h.0 ∙ c.is.ensures.0 c.if-not-is.false, h.1)
