use Rattle.std.proofs.Common.{◌-◌, ◌≤◌, length}
use Rattle.scan.specs.Bytes.{AllOf}
use Rattle.scan.proofs.byte.run_end.Given as goal

abbrev pub invariant-loop-end : goal.invariant-loop-end
invariant-loop-end l = (l.from ≤ l.end) × (l.end ≤ length l.text) × AllOf l.run l.text l.from l.end

abbrev pub decreases-loop-end : goal.decreases-loop-end
decreases-loop-end l = length l.text - l.end
