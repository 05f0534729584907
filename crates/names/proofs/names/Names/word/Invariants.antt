use Rattle.std.proofs.Common.{◌≡◌, drop}
use Rattle.std.specs.Prelude.{map}
use Rattle.names.specs.Names.{entry, word_of}
use Rattle.names.proofs.names.Names.word.Given as goal

-- no name before the index is of the term
abbrev pub invariant-loop-declared : goal.invariant-loop-declared
invariant-loop-declared l = word_of (map entry (drop l.declared-index l.declared-items)) l.term ≡ word_of (map entry l.declared-items) l.term
