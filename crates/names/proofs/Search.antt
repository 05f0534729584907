-- One name more in the search for a word.
use Rattle.std.proofs.Common.{◌≡◌, ℕ, ◌+◌, ◌<◌, true, false, cond, List, ◌∷◌, length, get_or, drop, Some, ap, ◌∙◌, drop-cons, add-one}
use Rattle.std.specs.Prelude.{map}
use Rattle.std.specs.Str.{bytes_eq}
use Rattle.names.specs.declared.names.Declared.{Declared}
use Rattle.names.specs.Names.{entry, look_up}

step : (xs : List Declared) (i : ℕ) (d : Declared) (w : List ℕ) → i < length xs
    → look_up (map entry (drop i xs)) w ≡ cond (bytes_eq (get_or xs i d).word.now w) (Some (get_or xs i d).named) (look_up (map entry (drop (i + 1) xs)) w)
step xs i d w h =
    let e : drop i xs ≡ get_or xs i d ∷ drop (i + 1) xs = rw (add-one, drop-cons xs i d) in
    ap (λ z. look_up (map entry z) w) e

pub found_here : (xs : List Declared) (i : ℕ) (d : Declared) (w : List ℕ) → i < length xs → bytes_eq (get_or xs i d).word.now w ≡ true
    → look_up (map entry (drop i xs)) w ≡ Some (get_or xs i d).named
found_here xs i d w h e = step xs i d w h ∙ ap (λ b. cond b (Some (get_or xs i d).named) (look_up (map entry (drop (i + 1) xs)) w)) e

pub not_here : (xs : List Declared) (i : ℕ) (d : Declared) (w : List ℕ) → i < length xs → bytes_eq (get_or xs i d).word.now w ≡ false
    → look_up (map entry (drop i xs)) w ≡ look_up (map entry (drop (i + 1) xs)) w
not_here xs i d w h e = step xs i d w h ∙ ap (λ b. cond b (Some (get_or xs i d).named) (look_up (map entry (drop (i + 1) xs)) w)) e
