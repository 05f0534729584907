-- One turn of each loop over the bytes of a span.
use Rattle.std.proofs.Common.{◌≡◌, ℕ, suc, ◌+◌, ◌%◌, ◌<◌, List, [], ◌∷◌, ◌++◌, length, get_or, take, sym, refl, ap, ◌∙◌, arith, length-take}
use Rattle.byte_provider.specs.declared.span.Span.{Span}
use Rattle.byte_provider.specs.declared.plan.Shift.{Shift}
use Rattle.byte_provider.specs.Held.{part, Inside}
use Rattle.byte_provider.specs.Values.{shift, shifted}
use Rattle.byte_provider.specs.Parts.{length_part, part_more, part_get}

-- one byte more is shifted
shifted_more : (w : Shift) (body : List ℕ) (n x : ℕ) (xs : List ℕ) → shifted w body n (xs ++ (x ∷ [])) ≡ shifted w body n xs ++ (shift w x (get_or body ((n + length xs) % length body) 0) ∷ [])
shifted_more w body n x [] = ap (λ k. shift w x (get_or body (k % length body) 0) ∷ []) (omega arith)
shifted_more w body n x (y ∷ ys) =
    let e : (n + 1) + length ys ≡ n + suc (length ys) = omega arith in
    ap (λ l. shift w y (get_or body (n % length body) 0) ∷ l) (shifted_more w body (n + 1) x ys ∙ ap (λ k. shifted w body (n + 1) ys ++ (shift w x (get_or body (k % length body) 0) ∷ [])) e)

pub length_shifted : (w : Shift) (body : List ℕ) (n : ℕ) (xs : List ℕ) → length (shifted w body n xs) ≡ length xs
length_shifted w body n [] = refl
length_shifted w body n (x ∷ xs) = ap suc (length_shifted w body (n + 1) xs)

pub shift_more : (w : Shift) (xs : List ℕ) (c b : Span) (i k : ℕ) → Inside xs c → Inside xs b → i < c.len → k ≡ i % b.len → k < b.len → shifted w (part xs b) 0 (take i (part xs c)) ++ (shift w (get_or xs (c.start + i) 0) (get_or xs (b.start + k) 0) ∷ []) ≡ shifted w (part xs b) 0 (take (i + 1) (part xs c))
shift_more w xs c b i k hc hb l ek kl =
    let n : 0 + length (take i (part xs c)) ≡ i = omega (arith, length-take i (part xs c), length_part xs c hc) in
    let e : (0 + length (take i (part xs c))) % length (part xs b) ≡ k = rw (n, length_part xs b hb) (sym ek) in
    let g : get_or (part xs b) ((0 + length (take i (part xs c))) % length (part xs b)) 0 ≡ get_or xs (b.start + k) 0 = ap (λ v. get_or (part xs b) v 0) e ∙ part_get xs b k kl in
    sym (ap (shifted w (part xs b) 0) (part_more xs c i hc l)
    ∙ shifted_more w (part xs b) 0 (get_or xs (c.start + i) 0) (take i (part xs c))
    ∙ ap (λ v. shifted w (part xs b) 0 (take i (part xs c)) ++ (shift w (get_or xs (c.start + i) 0) v ∷ [])) g)
