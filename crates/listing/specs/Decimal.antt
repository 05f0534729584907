-- What decimal digits are, said without the definition that writes them.
use Rattle.std.specs.Prelude.{◌≡◌, ℕ, ◌+◌, ◌-◌, ◌*◌, ◌<◌, ◌≤◌, ◌^◌, List, [], ◌∷◌, length, slice_index, decimal}

-- digits and nothing else
abbrev pub AreDigits : List ℕ → Type 0
AreDigits [] = Unit {0}
AreDigits (d ∷ ds) = (48 ≤ d) × (d ≤ 57) × AreDigits ds

-- the number that digits stand for, the highest first, after those that stand for n
abbrev pub value_after : ℕ → List ℕ → ℕ
value_after n [] = n
value_after n (d ∷ ds) = value_after (10 * n + (d - 48)) ds

abbrev pub value_of : List ℕ → ℕ
value_of ds = value_after 0 ds

-- one digit or more, with no 0 in front of others
pub record IsDecimal (ds : List ℕ) : Type 0 where
  pub digits : AreDigits ds
  pub some : 0 < length ds
  pub no_zero_first : slice_index ds 0 ≡ 48 → length ds ≡ 1

-- The decimal of n is one and stands for n, no other does, and no digits that do are fewer.
pub record HasOneDecimal (n : ℕ) : Type 0 where
  pub is_decimal : IsDecimal (decimal n)
  pub value : value_of (decimal n) ≡ n
  pub only : (ds : List ℕ) → IsDecimal ds → value_of ds ≡ n → ds ≡ decimal n
  pub shortest : (ds : List ℕ) → AreDigits ds → 0 < length ds → value_of ds ≡ n → length (decimal n) ≤ length ds

-- so it is for every number that fits into memory
abbrev pub NumbersHaveOneDecimal : Type 0
NumbersHaveOneDecimal = (n : ℕ) → n < 2 ^ 64 → HasOneDecimal n
