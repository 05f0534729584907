-- What is made of bytes is made of bytes: every number in use stays below 256.
use Rattle.std.specs.Prelude.{ℕ, zero, suc, ◌+◌, ◌-◌, ◌%◌, ◌<◌, ◌≤◌, List, [], ◌∷◌, ◌++◌, length, drop, slice_index, refl}
use Rattle.std.proofs.Common.{⊎_elim, arith, length-take, get_or-drop, get_or-take}
use Rattle.std.proofs.lemmas.List.{get_or_past, get_or_append_left, get_or-append_right}
use Rattle.std.proofs.lemmas.Bool.{cases_lt}
use Rattle.byte_provider.specs.declared.span.Span.{Span}
use Rattle.byte_provider.specs.declared.plan.Shift.{Shift}
use Rattle.byte_provider.specs.declared.plan.Shift.TheVariants.{Add, Subtract}
use Rattle.byte_provider.specs.declared.plan.Head.{Head}
use Rattle.byte_provider.specs.declared.plan.Head.TheVariants.{One, Two, Three}
use Rattle.byte_provider.specs.declared.plan.Plan.{Plan}
use Rattle.byte_provider.specs.declared.plan.Plan.TheVariants.{Copied, Shifted, Part}
use Rattle.byte_provider.specs.Held.{part}
use Rattle.byte_provider.specs.Plans.{head_bytes, HeadFits, added, Sound}
use Rattle.byte_provider.specs.Values.{shift, shifted}

abbrev Small : List ℕ → Type 0
Small xs = (k : ℕ) → slice_index xs k < 256

pub small_append : (xs ys : List ℕ) → Small xs → Small ys → Small (xs ++ ys)
small_append xs ys hx hy k =
    ⊎_elim
    (λ (l : k < length xs). rw (get_or_append_left xs ys 0 k l) (hx k))
    (λ (l : length xs ≤ k). rw (get_or-append_right xs ys (length xs) k 0 refl l) (hy (k - length xs)))
    (cases_lt k (length xs))

pub small_part : (xs : List ℕ) (p : Span) → Small xs → Small (part xs p)
small_part xs p h k =
    ⊎_elim
    (λ (l : k < p.len). rw (get_or-take p.len (drop p.start xs) k 0 l, get_or-drop p.start xs k 0) (h (p.start + k)))
    (λ (l : p.len ≤ k).
    let o : length (part xs p) ≤ k = omega (arith, length-take p.len (drop p.start xs)) in
    rw (get_or_past (part xs p) k 0 o) (omega arith))
    (cases_lt k p.len)

shift_small : (w : Shift) (x b : ℕ) → shift w x b < 256
shift_small Add x b = omega arith
shift_small Subtract x b = omega arith

shifted_small : (w : Shift) (body : List ℕ) (n : ℕ) (xs : List ℕ) → Small (shifted w body n xs)
shifted_small w body n [] k = omega arith
shifted_small w body n (x ∷ xs) zero = shift_small w x (slice_index body (n % length body))
shifted_small w body n (x ∷ xs) (suc k) = shifted_small w body (n + 1) xs k

small_cons : (x : ℕ) (xs : List ℕ) → x < 256 → Small xs → Small (x ∷ xs)
small_cons x xs h t zero = h
small_cons x xs h t (suc k) = t k

small_nil : Small []
small_nil k = omega arith

head_small : (h : Head) → HeadFits h → Small (head_bytes h)
head_small (One a) f = small_cons a [] f small_nil
head_small (Two a b) f = small_cons a (b ∷ []) f.0 (small_cons b [] f.1 small_nil)
head_small (Three a b c) f = small_cons a (b ∷ c ∷ []) f.0 (small_cons b (c ∷ []) f.1 (small_cons c [] f.2 small_nil))

pub added_small : (xs : List ℕ) (plan : Plan) → Small xs → Sound xs plan → Small (added xs plan)
added_small xs (Copied h a b) hx s = small_append (head_bytes h) (part xs a ++ part xs b) (head_small h s.2) (small_append (part xs a) (part xs b) (small_part xs a hx) (small_part xs b hx))
added_small xs (Shifted w c k) hx s = shifted_small w (part xs k) 0 (part xs c)
added_small xs (Part p) hx s = small_nil
