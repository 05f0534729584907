use Rattle.std.proofs.Common.{◌≡◌, ◌+◌, ◌≤◌, drop}
use Rattle.std.specs.Prelude.{map}
use Rattle.names.specs.Names.{entry, agent_from}
use Rattle.names.proofs.names.Names.agent.Given as goal

-- no party before the index has the word, and the next one is the agent
abbrev pub invariant-loop-declared : goal.invariant-loop-declared
invariant-loop-declared l = record {
  rest : agent_from l.agent (map entry (drop l.declared-index l.declared-items)) l.word ≡ agent_from 1 (map entry l.declared-items) l.word;
  few : l.agent ≤ l.declared-index + 1;
}
