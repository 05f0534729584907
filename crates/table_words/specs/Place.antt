-- Lines and columns.
use Rattle.std.specs.Prelude.{◌≡◌, ◌≢◌, ℕ, ◌+◌, ◌-◌, ◌<◌, ◌≤◌, ◌==◌, Bool, List, length, take, count_by, slice_index}
use Rattle.table_words.specs.declared.place.Place.{Place}

-- byte 10 ends a line
abbrev pub is_end : ℕ → Bool
is_end byte = byte == 10

-- the last line of a text begins here: at the text's first byte or behind a line end, and no line ends from there on
pub record BeginsLast (text : List ℕ) (begin : ℕ) : Type 0 where
  pub within : begin ≤ length text
  pub behind : 0 < begin → slice_index text (begin - 1) ≡ 10
  pub last : (i : ℕ) → begin ≤ i → i < length text → slice_index text i ≢ 10

-- The line and the column of a byte, or of the text's end, told from the bytes before it: the line is one more than the line ends among
-- them, the column is one more than the bytes from the beginning of the line on. Past the end nothing is counted.
pub record IsPlace (text : List ℕ) (byte : ℕ) (place : Place) : Type 0 where
  pub line : place.line ≡ count_by is_end (take byte text) + 1
  pub begin : ℕ
  pub begins : BeginsLast (take byte text) begin
  pub column : place.column ≡ length (take byte text) - begin + 1
