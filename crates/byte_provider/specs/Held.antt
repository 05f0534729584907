-- What the table holds, and parts of it.
use Rattle.std.specs.Prelude.{ℕ, ◌+◌, ◌≤◌, List, length, take, drop}
use Rattle.byte_provider.specs.declared.table.Table.{Table}
use Rattle.byte_provider.specs.declared.span.Span.{Span}

-- the bytes in use, in order
abbrev pub held : Table → List ℕ
held t = take t.used t.bytes

-- what a place that was never written stands for
abbrev pub no_span : Span
no_span = record { start = 0; len = 0 }

-- the bytes of a span
abbrev pub part : List ℕ → Span → List ℕ
part xs p = take p.len (drop p.start xs)

-- the span lies in the bytes in use
abbrev pub Inside : List ℕ → Span → Type 0
Inside xs p = p.start + p.len ≤ length xs
