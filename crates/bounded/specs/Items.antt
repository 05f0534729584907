-- What a bounded list contains.
use Rattle.std.specs.Prelude.{ℕ, List, take}
use Rattle.bounded.specs.declared.list.BoundedVec.{BoundedVec}

-- the items in order, without the unused places
abbrev pub items : {T : Type 0} {N : ℕ} → BoundedVec T N → List T
items v = take v.len v.cells
