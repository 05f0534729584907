-- Where the first word of a text ends.
use Rattle.std.proofs.Common.{◌≡◌, ℕ, ◌+◌, ◌-◌, ◌<◌, ◌≤◌, Bool, true, false, cond, eqb, List, [], ◌∷◌, length, take, drop, is_some, Some, None, Option, sym, refl, ap, ◌∙◌, arith, Bor, length-drop, ltb-true, take_all}
use Rattle.std.specs.Prelude.{nat_lt}
use Rattle.std.specs.List.{position_or_len}
use Rattle.std.proofs.lemmas.Bool.{false≢true, ltb-false}
use Rattle.std.proofs.lemmas.List.Splits.{slice_split_first, slice_split_none, length-slice_split}
use Rattle.std.proofs.lemmas.List.Sums.{fails_before_first}
use Rattle.console_calls.specs.Calls.{call_of}
use Rattle.console_calls.specs.Words.{first_space, split, split_after}

abbrev is_space : ℕ → Bool
is_space b = eqb b 32

pub cut_some : (xs : List ℕ) (n : ℕ) → first_space xs ≡ Some n → split xs ≡ take n xs ∷ split (take (length xs - (n + 1)) (drop (n + 1) xs))
cut_some xs n e = by (nat_lt (position_or_len is_space xs) (length xs)) refl (sym e)
  where
    by : (b : Bool) → nat_lt (position_or_len is_space xs) (length xs) ≡ b → Some n ≡ cond b (Some (position_or_len is_space xs)) None → split xs ≡ take n xs ∷ split (take (length xs - (n + 1)) (drop (n + 1) xs))
    by true h q =
        let m : position_or_len is_space xs ≡ n = cc in
        let whole : length (drop (n + 1) xs) ≤ length xs - (n + 1) = omega (arith, length-drop (n + 1) xs) in
        rw (take_all (length xs - (n + 1)) (drop (n + 1) xs) whole)
        (slice_split_first is_space xs 0 (ltb-true _ _ h) ∙ ap (λ k. take k xs ∷ split (drop (k + 1) xs)) m)
    by false h q = absurd (false≢true (ap is_some (sym q)))

pub cut_none : (xs : List ℕ) → first_space xs ≡ None → split xs ≡ xs ∷ []
cut_none xs e = by (nat_lt (position_or_len is_space xs) (length xs)) refl (sym e)
  where
    by : (b : Bool) → nat_lt (position_or_len is_space xs) (length xs) ≡ b → None ≡ cond b (Some (position_or_len is_space xs)) None → split xs ≡ xs ∷ []
    by true h q = absurd (false≢true (ap is_some q))
    by false h q =
        let l : length xs ≤ position_or_len is_space xs = ltb-false _ _ h in
        slice_split_none is_space xs (λ k d i. fails_before_first is_space xs k d (omega (arith, l, i)))

-- the words after the first
pub rest_is : (xs w : List ℕ) (o : Option (Bor (List ℕ))) (rest : Bor (List ℕ)) → split xs ≡ w ∷ split_after o → o ≡ Some rest → split xs ≡ w ∷ split rest.now
rest_is xs w o rest e is = e ∙ ap (λ p. w ∷ split_after p) is

-- a text of more words than four is no call
pub too_many : (a b c d : List ℕ) (xs : List ℕ) → None ≡ call_of (a ∷ b ∷ c ∷ d ∷ split xs)
too_many a b c d xs = by (split xs) (omega (arith, length-slice_split is_space xs))
  where
    by : (ws : List (List ℕ)) → 0 < length ws → None ≡ call_of (a ∷ b ∷ c ∷ d ∷ ws)
    by [] h = absurd (omega arith)
    by (w ∷ ws) h = refl
