use Rattle.std.proofs.Common.{rules}
use Rattle.protocol.specs.View.{lines_of}
use Rattle.runs.proofs.Bases.{own_is}
use Rattle.runs.proofs.memory.own_slots.Goals as goal

pub returns-clause-is : goal.returns-clause-is
returns-clause-is c = own_is (lines_of c.args.protocol.now) c.args.agent c.if-agent-eq-LISTENER.false c.script.result c.map_or.result _ c.script.ensures c.map_or.ensures (λ s q. search rules)
