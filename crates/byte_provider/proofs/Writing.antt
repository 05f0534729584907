-- How the bytes in use grow.
use Rattle.std.specs.List.{copy_within}
use Rattle.std.proofs.Common.{◌≡◌, ℕ, ◌+◌, ◌-◌, ◌<◌, ◌≤◌, replicate, ⊎_elim, List, [], ◌∷◌, ◌++◌, length, get_or, take, set, sym, ap, ◌∙◌, append_assoc, arith, drop, length-drop, length-take, get_or-take}
use Rattle.std.proofs.lemmas.Bool.{cases_lt}
use Rattle.std.proofs.lemmas.List.{take_more_set, get_or_append_left, get_or_past, get_or-replicate, length-replicate}
use Rattle.std.proofs.lemmas.List.Edits.{take-paste}
use Rattle.byte_provider.specs.declared.span.Span.{Span}
use Rattle.byte_provider.specs.Held.{part, Inside}
use Rattle.byte_provider.specs.Parts.{part_part}

-- zeros are bytes
pub zeros_small : (n k : ℕ) → get_or (replicate n 0) k 0 < 256
zeros_small n k =
    ⊎_elim
    (λ (l : k < n). rw (get_or-replicate {A = ℕ} n k 0 0 l) (omega arith))
    (λ (l : n ≤ k). rw (get_or_past {X = ℕ} (replicate n 0) k 0 (omega (arith, length-replicate {A = ℕ}))) (omega arith))
    (cases_lt k n)

-- a part that is copied behind the bytes in use
pub copied_to : (xs : List ℕ) (n : ℕ) (p : Span) → Inside (take n xs) p → n ≤ length xs → take (n + p.len) (copy_within xs p.start (p.start + p.len) n) ≡ take n xs ++ part (take n xs) p
copied_to xs n p h l =
    let m : (p.start + p.len) - p.start ≡ p.len = omega arith in
    let d : p.len ≤ length (drop p.start xs) = omega (arith, length-take n xs, length-drop p.start xs) in
    let e : part (take n xs) p ≡ part xs p = part_part xs (record { start = 0; len = n }) p.start p.len (omega (arith, length-take n xs)) ∙ ap (λ k. part xs (record { start = k; len = p.len })) (omega arith) in
    rw m (take-paste xs n (drop p.start xs) p.len l d ∙ ap (λ v. take n xs ++ v) (sym e))

-- A loop has written i bytes behind the first n of xs, and left those alone.
module _ (xs bs done : List ℕ) (n i : ℕ) (e : take (n + i) bs ≡ take n xs ++ done) where
  -- what it reads in front of them is what was there
  pub front : (k : ℕ) → k < length (take n xs) → get_or bs k 0 ≡ get_or (take n xs) k 0
  front k h =
      let l : k < n + i = omega (arith, length-take n xs) in
      sym (get_or-take (n + i) bs k 0 l) ∙ ap (λ l. get_or l k 0) e ∙ get_or_append_left (take n xs) done 0 k h

  -- one byte more
  pub wrote_more : (b : ℕ) → n + i < length bs → take (n + (i + 1)) (set bs (n + i) b) ≡ take n xs ++ (done ++ (b ∷ []))
  wrote_more b h =
      let s : n + (i + 1) ≡ (n + i) + 1 = omega arith in
      ap (λ k. take k (set bs (n + i) b)) s ∙ take_more_set bs (n + i) b h ∙ ap (λ l. l ++ (b ∷ [])) e ∙ append_assoc (take n xs) done (b ∷ [])
