use Rattle.std.proofs.Common.{◌∙◌}
use Rattle.protocol.proofs.Initial.{agent_initial, none_initial}
use Rattle.protocol.proofs.protocol.Protocol.initial_part.Goals as goal

pub returns-in-Some : goal.returns-in-Some
returns-in-Some c = c.opening.ensures ∙ agent_initial c.args.self.now c.args.agent c.in-Some.script.now c.in-Some.ensures

pub returns-in-None : goal.returns-in-None
returns-in-None c = none_initial c.args.self.now c.args.agent c.in-None.ensures
