use Rattle.std.proofs.Common.{refl}
use Rattle.syntax.specs.Grammar.{name}
use Rattle.names.specs.Names.{known}
use Rattle.table_text.proofs.Reading.{agent_found}
use Rattle.table_text.proofs.line.agent.Goals as goal

pub returns-in-Some-clause-agent : goal.returns-in-Some-clause-agent
returns-in-Some-clause-agent c = λ w ts h.
    let n = c.in-Some.ensures.word (name w) ts h in
    (agent_found (known c.args.names.now) w c.in-Some.word.now c.agent.result _ n.0 c.agent.ensures c.unwrap_or.ensures, n.1)

pub returns-in-None-clause-agent : goal.returns-in-None-clause-agent
returns-in-None-clause-agent c = λ w ts h. absurd ((c.in-None.ensures.word (name w) ts h).0 w refl)
