use Rattle.std.proofs.Common.{◌≤◌, drop}
use Rattle.console_calls.proofs.Digits.{ReadTo}
use Rattle.console_calls.proofs.number.digits.Given as goal

abbrev pub invariant-loop-b : goal.invariant-loop-b
invariant-loop-b l = (l.n ≤ 65535) × ReadTo l.word (drop l.b-index l.word) l.n
