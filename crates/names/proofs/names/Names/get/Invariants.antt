use Rattle.std.proofs.Common.{◌≡◌, drop}
use Rattle.std.specs.Prelude.{map}
use Rattle.names.specs.Names.{entry, look_up}
use Rattle.names.proofs.names.Names.get.Given as goal

-- no name before the index has the word
abbrev pub invariant-loop-declared : goal.invariant-loop-declared
invariant-loop-declared l = look_up (map entry (drop l.declared-index l.declared-items)) l.word ≡ look_up (map entry l.declared-items) l.word
