-- What bytes put one after another come to.
use Rattle.std.proofs.Common.{◌≡◌, ℕ, suc, ◌+◌, ◌/◌, ◌%◌, ◌<◌, ◌≤◌, ◌^◌, decimal, List, [], ◌∷◌, ◌++◌, length, drop, refl, sym, ap, subst, ◌∙◌, add-zero, zero-add, add-one, arith, length-append}
use Rattle.std.proofs.lemmas.Fmt.{decimal_digit, decimal_step}
use Rattle.std.proofs.lemmas.List.Edits.{sets, sets-eq}
use Rattle.std.specs.Prelude.{slice_set}
use Rattle.listing.specs.Text.{put, Puts}
use Rattle.listing.specs.declared.text.Text.{Text}

put_append : (memory : List ℕ) (place : ℕ) (xs ys : List ℕ) → put memory place (xs ++ ys) ≡ put (put memory place xs) (place + length xs) ys
put_append memory place [] ys = rw add-zero refl
put_append memory place (x ∷ xs) ys =
    let e : place + 1 + length xs ≡ place + length (x ∷ xs) = omega arith in
    rw (put_append (slice_set memory place x) (place + 1) xs ys, e) refl

-- a text goes on
pub puts_more : {a b c : Text} {xs ys : List ℕ} → Puts a xs b → Puts b ys c → Puts a (xs ++ ys) c
puts_more {a} {b} {c} {xs} {ys} p q = record {
  name = q.name ∙ p.name;
  memory =
      q.memory ∙ ap (λ m. put m b.len ys) p.memory ∙ ap (λ n. put (put a.memory.now a.len xs) n ys) p.len
      ∙ sym (put_append a.memory.now a.len xs ys);
  len = q.len ∙ (omega (arith, p.len, length-append xs ys));
}

-- the digit of a number below ten
pub puts_digit : {a b c : Text} (n : ℕ) → n < 10 → b ≡ a → Puts b ((48 + n % 10) ∷ []) c → Puts a (decimal n) c
puts_digit {a} {b} {c} n h e p =
    let same : n % 10 ≡ n = omega arith in
    rw (decimal_digit n h) (subst (λ d. Puts a ((48 + d) ∷ []) c) same (subst (λ (x : Text). Puts x ((48 + n % 10) ∷ []) c) e p))

-- the last digit of a number after those of its tenth
pub puts_next_digit : {a b c d : Text} (n : ℕ) → 10 ≤ n → n < 2 ^ 64 → Puts a (decimal (n / 10)) b → c ≡ b → Puts c ((48 + n % 10) ∷ []) d → Puts a (decimal n) d
puts_next_digit {a} {b} {c} {d} n h k p e q =
    rw (decimal_step n h k) (puts_more p (subst (λ (x : Text). Puts x ((48 + n % 10) ∷ []) d) e q))

put_is_sets : (memory : List ℕ) (place : ℕ) (bs : List ℕ) → put memory place bs ≡ sets memory place bs
put_is_sets memory place [] = refl
put_is_sets memory place (b ∷ bs) = rw add-one (put_is_sets (slice_set memory place b) (suc place) bs)

-- where all fit, they stand at the front, and the rest is as it was
pub put_front : (memory bs : List ℕ) {new : List ℕ} {n : ℕ} → new ≡ put memory 0 bs → n ≡ length bs → n ≤ length memory → new ≡ bs ++ drop n memory
put_front memory bs {new} {n} e len h =
    e ∙ put_is_sets memory 0 bs ∙ sets-eq bs memory 0 (omega arith) ∙ (rw (zero-add, len) refl)
