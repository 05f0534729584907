use Rattle.std.proofs.Common.{sym, subst}
use Rattle.rules.specs.State.{BUILD}
use Rattle.protocol.specs.Adding.{Adds}
use Rattle.protocol.proofs.Building.{mate_adds, told_refused}
use Rattle.protocol.proofs.protocol.building.build_term.Goals as goal

pub returns-in_err-mate : goal.returns-in_err-mate
returns-in_err-mate c =
    subst (λ o. Adds c.args.terms.now (BUILD c.args.form c.args.a c.args.b) o c.mate.new.self) (sym (told_refused c.from_residual.result _ c.from_residual.ensures.1))
    (mate_adds c.args.terms.now c.mate.new.self c.args.a c.args.b c.args.form c.if-form-eq-MATE.true _ c.in_err-mate.ensures)

pub returns-in_ok-mate : goal.returns-in_ok-mate
returns-in_ok-mate c = mate_adds c.args.terms.now c.mate.new.self c.args.a c.args.b c.args.form c.if-form-eq-MATE.true _ c.in_ok-mate.ensures
