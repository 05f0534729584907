use Rattle.std.proofs.Common.{subst}
use Rattle.table_text.specs.Openings.{IsFirst}
use Rattle.table_text.proofs.term.read_opening.Goals as goal

pub returns-in_err-next-clause-opens : goal.returns-in_err-next-clause-opens
returns-in_err-next-clause-opens c = λ x xs a. let n = c.in_err-next.ensures.next x xs a in rw c.from_residual.ensures (λ f. subst IsFirst n.0 f, n.1)

pub returns-clause-opens : goal.returns-clause-opens
returns-clause-opens c = λ x xs a. let n = c.in_ok-next.ensures.next x xs a in (rw n.0 c.opening_of.ensures.opens, n.1)
