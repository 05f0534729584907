use Rattle.std.proofs.Common.{◌≡◌, ◌+◌, ◌%◌, ◌<◌, ◌++◌, take}
use Rattle.byte_provider.specs.Held.{held, part}
use Rattle.byte_provider.specs.Values.{shifted}
use Rattle.byte_provider.proofs.table.Table.shift.Given as goal

abbrev pub invariant-loop-i : goal.invariant-loop-i
invariant-loop-i l =
    (take (l.at + l.i) l.self.bytes ≡ held l.initial.self ++ shifted l.way (part (held l.initial.self) l.body) 0 (take l.i (part (held l.initial.self) l.content)))
    × (l.self.used ≡ l.at)
    × (l.k ≡ l.i % l.body.len)
    × (l.k < l.body.len)
