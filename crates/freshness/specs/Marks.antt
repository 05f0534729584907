-- Marks of terms by number.
use Rattle.std.specs.Prelude.{◌≡◌, ℕ, ◌<◌, Bool, false, ◌||◌, List, length, ◌==◌, slice_index_or}

-- the numbers that pass the test are marked too, the others are as before
pub record Marked (test : ℕ → Bool) (ms ms' : List Bool) : Type 0 where
  pub marks : (t : ℕ) → t < 512 → slice_index_or ms' t false ≡ (slice_index_or ms t false || test t)
  pub size : length ms' ≡ length ms

-- one number alone is marked, if it is below 512
pub record Only (t : ℕ) (ms : List Bool) : Type 0 where
  pub marks : (u : ℕ) → u < 512 → slice_index_or ms u false ≡ (t == u)
  pub size : length ms ≡ 512
