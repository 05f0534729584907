-- The words of a line, and the numbers that they write.
use Rattle.std.specs.Prelude.{ℕ, ◌+◌, ◌-◌, ◌*◌, cond, ◌&&◌, List, [], ◌∷◌, length, Some, None, Option, ◌==◌, nat_le, nat_lt}
use Rattle.std.specs.Borrow.{Bor}
use Rattle.std.specs.List.{position, slice_split}
use Rattle.std.specs.Str.{all_ascii_digits}

-- the words of a text: each space ends one
abbrev pub split : List ℕ → List (List ℕ)
split xs = slice_split (λ b. b == 32) xs

-- where the first space stands
abbrev pub first_space : List ℕ → Option ℕ
first_space xs = position (λ b. b == 32) xs

-- the words of what follows a space, if there is one
abbrev pub split_after : Option (Bor (List ℕ)) → List (List ℕ)
split_after None = []
split_after (Some rest) = split rest.now

-- n with the digits of a word written after it
abbrev pub value_from : ℕ → List ℕ → ℕ
value_from n [] = n
value_from n (c ∷ cs) = value_from (n * 10 + (c - 48)) cs

abbrev pub value : List ℕ → ℕ
value w = value_from 0 w

-- digits alone, and at most 65535
abbrev pub digits_of : List ℕ → Option ℕ
digits_of w = cond (all_ascii_digits w && nat_le (value w) 65535) (Some (value w)) None

-- one to five of them
abbrev pub number_of : List ℕ → Option ℕ
number_of w = cond (nat_lt 0 (length w) && nat_le (length w) 5) (digits_of w) None
