-- Text that is written into lent memory, byte by byte.
use Rattle.std.specs.Prelude.{◌≡◌, ℕ, ◌+◌, List, [], ◌∷◌, length, slice_set}
use Rattle.std.specs.Borrow.{MutBor}
use Rattle.listing.specs.declared.text.Text.{Text}

-- memory after bytes were put into it from a place on; what would stand behind its end is left out
abbrev pub put : List ℕ → ℕ → List ℕ → List ℕ
put memory place [] = memory
put memory place (b ∷ bs) = put (slice_set memory place b) (place + 1) bs

-- the text is in this memory and has no byte yet
pub record Begins (lent : MutBor (List ℕ)) (text : Text) : Type 0 where
  pub name : text.memory.ghost_name ≡ lent.ghost_name
  pub memory : text.memory.now ≡ lent.now
  pub len : text.len ≡ 0

-- the text has these bytes more, in the same memory
pub record Puts (before : Text) (bytes : List ℕ) (after : Text) : Type 0 where
  pub name : after.memory.ghost_name ≡ before.memory.ghost_name
  pub memory : after.memory.now ≡ put before.memory.now before.len bytes
  pub len : after.len ≡ before.len + length bytes
