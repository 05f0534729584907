use Rattle.compiled.proofs.Making.{MadeUpTo}
use Rattle.compiled.proofs.calls.make_calls.Given as goal

abbrev pub invariant-loop-number : goal.invariant-loop-number
invariant-loop-number l = MadeUpTo l.calls l.initial.answers l.number l.protocol l.answers
