use Rattle.syntax.proofs.Turns.{stepped, handed_on}
use Rattle.syntax.proofs.machine.Machine.step.Goals as goal

pub returns-in_err-turn-clause-steps : goal.returns-in_err-turn-clause-steps
returns-in_err-turn-clause-steps c =
    handed_on c.args.self.now c.turn.new.self c.args.self.now c.args.sign c.in_err-turn.field-0.0 c.from_residual.result c.in_err-turn.ensures c.from_residual.ensures.1

pub returns-clause-steps : goal.returns-clause-steps
returns-clause-steps c = stepped c.args.self.now c.turn.new.self c.args.sign _ c.in_ok-turn.ensures
