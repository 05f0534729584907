-- Spans of a list of bytes.
use Rattle.std.specs.Prelude.{◌≡◌, ℕ, ◌+◌, ◌-◌, ◌<◌, ◌≤◌, List, [], ◌∷◌, ◌++◌, length, take, drop, slice_index}
use Rattle.std.proofs.Common.{sym, ap, ◌∙◌, arith, length-take, length-drop, get_or-drop, get_or-take, take-take, drop-drop}
use Rattle.std.proofs.Math.Seq.{drop-append_seam, take-length}
use Rattle.std.proofs.lemmas.List.{take_more, drop-take, take-append-le, drop-append-le}
use Rattle.byte_provider.specs.declared.span.Span.{Span}
use Rattle.byte_provider.specs.Held.{part, Inside}

pub length_part : (xs : List ℕ) (p : Span) → Inside xs p → length (part xs p) ≡ p.len
length_part xs p h = simp (length-take, length-drop) (omega arith)

pub part_get : (xs : List ℕ) (p : Span) (i : ℕ) → i < p.len → slice_index (part xs p) i ≡ slice_index xs (p.start + i)
part_get xs p i h = get_or-take p.len (drop p.start xs) i 0 h ∙ get_or-drop p.start xs i 0

-- one byte more of a part
pub part_more : (xs : List ℕ) (p : Span) (i : ℕ) → Inside xs p → i < p.len → take (i + 1) (part xs p) ≡ take i (part xs p) ++ (slice_index xs (p.start + i) ∷ [])
part_more xs p i h l =
    let m : i < length (part xs p) = omega (arith, length_part xs p h) in
    take_more (part xs p) i 0 m ∙ ap (λ b. take i (part xs p) ++ (b ∷ [])) (part_get xs p i l)

part_all : (xs : List ℕ) (p : Span) → Inside xs p → take p.len (part xs p) ≡ part xs p
part_all xs p h = ap (λ n. take n (part xs p)) (sym (length_part xs p h)) ∙ take-length (part xs p)

-- bytes at the end change no part of the front
pub part_front : (xs ys : List ℕ) (p : Span) → Inside xs p → part (xs ++ ys) p ≡ part xs p
part_front xs ys p h =
    let a : p.start ≤ length xs = omega arith in
    let b : p.len ≤ length (drop p.start xs) = simp length-drop (omega arith) in
    ap (take p.len) (drop-append-le p.start xs ys a) ∙ take-append-le p.len (drop p.start xs) ys b

-- the bytes at the end are the last part
pub part_end : (xs ys : List ℕ) → part (xs ++ ys) (record { start = length xs; len = length ys }) ≡ ys
part_end xs ys = ap (take (length ys)) (drop-append_seam xs ys) ∙ take-length ys

-- a part of a part
pub part_part : (xs : List ℕ) (p : Span) (d n : ℕ) → d + n ≤ p.len → take n (drop d (part xs p)) ≡ part xs (record { start = p.start + d; len = n })
part_part xs p d n h =
    let e : p.len ≡ d + (p.len - d) = omega arith in
    let k : n ≤ p.len - d = omega arith in
    ap (λ v. take n (drop d (take v (drop p.start xs)))) e
    ∙ ap (take n) (drop-take d (p.len - d) (drop p.start xs))
    ∙ take-take n (p.len - d) (drop d (drop p.start xs)) k
    ∙ ap (take n) (drop-drop d p.start xs)

-- what follows a part's first bytes
pub part_rest : (xs : List ℕ) (p : Span) (d : ℕ) → Inside xs p → d ≤ p.len → drop d (part xs p) ≡ part xs (record { start = p.start + d; len = p.len - d })
part_rest xs p d h l =
    let e : p.len ≡ d + (p.len - d) = omega arith in
    ap (λ v. drop d (take v (drop p.start xs))) e
    ∙ drop-take d (p.len - d) (drop p.start xs)
    ∙ ap (take (p.len - d)) (drop-drop d p.start xs)

-- the first bytes of a part are all of it, once there are as many
pub part_done : (xs : List ℕ) (p : Span) (i : ℕ) → Inside xs p → i ≤ p.len → p.len ≤ i → take i (part xs p) ≡ part xs p
part_done xs p i h a b = let e : i ≡ p.len = omega arith in ap (λ n. take n (part xs p)) e ∙ part_all xs p h
