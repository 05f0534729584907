-- The stack of open brackets is its list from the end.
use Rattle.std.proofs.Common.{◌≡◌, ℕ, ◌+◌, List, [], ◌∷◌, ◌++◌, length, take, reverse, sym, ap, ◌∙◌, arith}
use Rattle.std.specs.Prelude.{slice_set}
use Rattle.std.proofs.lemmas.List.{reverse-append, reverse-reverse, length-reverse}
use Rattle.std.proofs.Math.Seq.{take-append_seam, set-append_seam}

-- a list whose last item is f
unreversed : {A : Type 0} (xs : List A) (f : A) (fs : List A) → reverse xs ≡ f ∷ fs → xs ≡ reverse fs ++ f ∷ []
unreversed xs f fs e = sym (reverse-reverse xs) ∙ ap reverse e ∙ reverse-append (f ∷ []) fs

pub length_under : {A : Type 0} (xs : List A) (f : A) (fs : List A) → reverse xs ≡ f ∷ fs → length xs ≡ length fs + 1
length_under xs f fs e = omega (arith, sym (length-reverse xs) ∙ ap length e)

pub without_last : {A : Type 0} (xs : List A) (f : A) (fs : List A) (n : ℕ) → reverse xs ≡ f ∷ fs → n + 1 ≡ length xs → reverse (take n xs) ≡ fs
without_last xs f fs n e l =
    let m : n ≡ length (reverse fs) = omega (arith, length_under xs f fs e, length-reverse fs) in
    let a = ap (take n) (unreversed xs f fs e) in
    let b = ap (λ k. take k (reverse fs ++ f ∷ [])) m in
    let c = take-append_seam (reverse fs) (f ∷ []) in
    ap reverse (a ∙ b ∙ c) ∙ reverse-reverse fs

pub with_last : {A : Type 0} (xs : List A) (f : A) (fs : List A) (n : ℕ) (g : A) → reverse xs ≡ f ∷ fs → n + 1 ≡ length xs → reverse (slice_set xs n g) ≡ g ∷ fs
with_last xs f fs n g e l =
    let m : n ≡ length (reverse fs) = omega (arith, length_under xs f fs e, length-reverse fs) in
    let a = ap (λ ys. slice_set ys n g) (unreversed xs f fs e) in
    let b = ap (λ k. slice_set (reverse fs ++ f ∷ []) k g) m in
    let c : slice_set (reverse fs ++ f ∷ []) (length (reverse fs)) g ≡ reverse fs ++ g ∷ [] = set-append_seam (reverse fs) f [] g in
    ap reverse (a ∙ b ∙ c) ∙ reverse-append (reverse fs) (g ∷ []) ∙ ap (λ ys. g ∷ ys) (reverse-reverse fs)
