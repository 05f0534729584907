-- What adding bytes to the table does.
use Rattle.std.specs.Prelude.{◌≡◌, ℕ, ◌+◌, ◌≤◌, List, ◌++◌, length}
use Rattle.byte_provider.specs.declared.table.Table.{Table}
use Rattle.byte_provider.specs.declared.span.Span.{Span}
use Rattle.byte_provider.specs.declared.plan.Plan.{Plan}
use Rattle.byte_provider.specs.Held.{held, part, Inside}
use Rattle.byte_provider.specs.Plans.{written, added}

-- n more bytes have space
abbrev pub HasSpace : Table → ℕ → Type 0
HasSpace t n = t.used + n ≤ 32768

-- ys follow the bytes that were in use
pub record Added (t : Table) (ys : List ℕ) (t' : Table) : Type 0 where
  pub bytes : held t' ≡ held t ++ ys
  pub used : t'.used ≡ t.used + length ys

-- what a plan adds follows the bytes that were in use, and its value lies in the span
pub record Written (t : Table) (plan : Plan) (p : Span) (t' : Table) : Type 0 where
  pub adds : Added t (added (held t) plan) t'
  pub value : part (held t') p ≡ written (held t) plan
  pub within : Inside (held t') p
