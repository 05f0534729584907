use Rattle.std.proofs.Common.{sym, subst}
use Rattle.rules.specs.State.{BUILD}
use Rattle.protocol.specs.Adding.{Adds}
use Rattle.protocol.proofs.Building.{form_adds, told_refused}
use Rattle.protocol.proofs.protocol.building.build_form.Goals as goal

pub returns-in_err-build-in-Some : goal.returns-in_err-build-in-Some
returns-in_err-build-in-Some c =
    subst (λ o. Adds c.args.terms.now (BUILD c.args.form c.args.a c.args.b) o c.build.new.self) (sym (told_refused c.from_residual.result _ c.from_residual.ensures.1))
    (form_adds c.args.terms.now c.build.new.self c.args.form c.args.a c.args.b c.in-Some.known (sym c.in-Some.ensures) _ c.in_err-build-in-Some.ensures)

pub returns-in_ok-build-in-Some : goal.returns-in_ok-build-in-Some
returns-in_ok-build-in-Some c = form_adds c.args.terms.now c.build.new.self c.args.form c.args.a c.args.b c.in-Some.known (sym c.in-Some.ensures) _ c.in_ok-build-in-Some.ensures
