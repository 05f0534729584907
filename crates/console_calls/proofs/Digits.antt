-- Reading the digits of a word from the left.
use Rattle.std.proofs.Common.{◌≡◌, ℕ, ◌+◌, ◌-◌, ◌*◌, ◌<◌, ◌≤◌, true, false, ◌&&◌, leb, List, [], ◌∷◌, length, get_or, drop, Some, None, sym, ap, ◌∙◌, add-one, arith, drop-cons, le-leb}
use borrow.Author.Tests.{lt-leb}
use Rattle.std.proofs.lemmas.Bool.{and_from, and_left, and_right, cond-true, cond-false}
use Rattle.std.specs.Char.{is_ascii_digit}
use Rattle.std.specs.Str.{all_ascii_digits}
use Rattle.console_calls.specs.Words.{value_from, value, digits_of}

-- n is read of a word, and the rest is still to come
pub record ReadTo (w rest : List ℕ) (n : ℕ) : Type 0 where
  pub val : value_from n rest ≡ value w
  pub dig : all_ascii_digits rest ≡ all_ascii_digits w

-- more digits never write a lesser number
grows : (n : ℕ) (cs : List ℕ) → n ≤ value_from n cs
grows n [] = omega arith
grows n (c ∷ cs) = omega (arith, grows (n * 10 + (c - 48)) cs)

module _ (w : List ℕ) (n i : ℕ) (r : ReadTo w (drop i w) n) (l : i < length w) where
  next : drop i w ≡ get_or w i 0 ∷ drop (i + 1) w
  next = drop-cons w i 0 l ∙ ap (λ k. get_or w i 0 ∷ drop k w) (sym (add-one i))

  pub read_more : (d : ℕ) → d ≡ get_or w i 0 - 48 → is_ascii_digit (get_or w i 0) ≡ true → ReadTo w (drop (i + 1) w) (n * 10 + d)
  read_more d e digit =
      record {
        val = ap (λ v. value_from (n * 10 + v) (drop (i + 1) w)) e ∙ sym (ap (value_from n) next) ∙ r.val;
        dig = sym (ap (λ b. b && all_ascii_digits (drop (i + 1) w)) digit) ∙ sym (ap all_ascii_digits next) ∙ r.dig;
      }

  pub no_digit : is_ascii_digit (get_or w i 0) ≡ false → all_ascii_digits w ≡ false
  no_digit d = sym r.dig ∙ ap all_ascii_digits next ∙ ap (λ b. b && all_ascii_digits (drop (i + 1) w)) d

refused : (w : List ℕ) → (all_ascii_digits w && leb (value w) 65535) ≡ false → digits_of w ≡ None
refused w e = cond-false (all_ascii_digits w && leb (value w) 65535) (Some (value w)) None e

-- a word with a byte that is no digit is refused
pub not_digits : (w : List ℕ) → all_ascii_digits w ≡ false → digits_of w ≡ None
not_digits w e = refused w (and_left (all_ascii_digits w) (leb (value w) 65535) e)

-- so is one whose first digits are beyond 65535
pub too_great : (w rest : List ℕ) (n : ℕ) → ReadTo w rest n → 65535 < n → digits_of w ≡ None
too_great w rest n r h =
    let great : 65535 < value w = omega (arith, grows n rest, r.val) in
    refused w (and_right (all_ascii_digits w) (leb (value w) 65535) (lt-leb (value w) 65535 great))

pub whole : (w rest : List ℕ) (n : ℕ) → ReadTo w rest n → rest ≡ [] → n ≤ 65535 → digits_of w ≡ Some n
whole w rest n r end small =
    let val : n ≡ value w = sym (ap (value_from n) end) ∙ r.val in
    let dig : all_ascii_digits w ≡ true = sym r.dig ∙ ap all_ascii_digits end in
    let bound : value w ≤ 65535 = omega arith in
    cond-true (all_ascii_digits w && leb (value w) 65535) (Some (value w)) None (and_from (all_ascii_digits w) (leb (value w) 65535) dig (le-leb (value w) 65535 bound)) ∙ ap Some (sym val)
