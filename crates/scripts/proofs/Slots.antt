-- The lowest slot that holds a term number.
use Rattle.std.proofs.Common.{◌≡◌, ℕ, zero, suc, ◌+◌, ◌<◌, Bool, true, false, cond, ◌||◌, List, [], ◌∷◌, ◌++◌, length, get_or, take, is_some, Some, None, Option, MatchOption, sym, refl, ap, ◌∙◌, arith}
use Rattle.std.proofs.lemmas.List.{take_more}
use Rattle.std.specs.List.{HoldsAt, AllWithin}
use Rattle.scripts.specs.declared.instruction.Line.{Line}
use Rattle.scripts.specs.Holding.{no_line, NoneBelow}
use Rattle.scripts.specs.Lines.{is_number, slot_of}

pub found : (n i t : ℕ) (ls : List Line) → i < length ls → NoneBelow ls i t → is_number t (get_or ls i no_line).holds ≡ true → slot_of n ls t ≡ Some (n + i)
found n i t [] l none h = absurd (omega arith)
found n zero t (x ∷ ls) l none h = rw h (ap Some (omega arith))
found n (suc i) t (x ∷ ls) l none h =
    rw (none 0 (omega arith)) (found (n + 1) i t ls (omega arith) (λ k m. none (suc k) (omega arith)) h ∙ ap Some (omega arith))

pub unfound : (n t : ℕ) (ls : List Line) → NoneBelow ls (length ls) t → slot_of n ls t ≡ None
unfound n t [] none = refl
unfound n t (x ∷ ls) none = rw (none 0 (omega arith)) (unfound (n + 1) t ls (λ k m. none (suc k) (omega arith)))

-- what a search for the first slot that holds the term answers
pub slot_first : (t : ℕ) (ls : List Line) (r : Option ℕ)
    → MatchOption r (AllWithin (λ l. is_number t l.holds ≡ false) ls 0 (length ls)) (λ i. (i < length ls) × HoldsAt (λ l. is_number t l.holds ≡ true) ls i × AllWithin (λ l. is_number t l.holds ≡ false) ls 0 i)
    → r ≡ slot_of 0 ls t
slot_first t ls None h = sym (unfound 0 t ls (λ k l. h k no_line (omega arith) l))
slot_first t ls (Some i) h = sym (found 0 i t ls h.0 (λ k l. h.2 k no_line (omega arith) l) (h.1 no_line) ∙ ap Some (omega arith))

or_more : (n t : ℕ) (ls : List Line) (l : Line) → is_some (slot_of n (ls ++ (l ∷ [])) t) ≡ (is_some (slot_of n ls t) || is_number t l.holds)
or_more n t [] l = last (is_number t l.holds)
  where
    last : (b : Bool) → is_some (cond b (Some n) None) ≡ b
    last true = refl
    last false = refl
or_more n t (x ∷ ls) l = first (is_number t x.holds) (or_more (n + 1) t ls l)
  where
    first : (b : Bool) → is_some (slot_of (n + 1) (ls ++ (l ∷ [])) t) ≡ (is_some (slot_of (n + 1) ls t) || is_number t l.holds) → is_some (cond b (Some n) (slot_of (n + 1) (ls ++ (l ∷ [])) t)) ≡ (is_some (cond b (Some n) (slot_of (n + 1) ls t)) || is_number t l.holds)
    first true e = refl
    first false e = e

-- one line more is marked
pub marked_more : (ls : List Line) (i t : ℕ) (b : Bool) → i < length ls → b ≡ is_some (slot_of 0 (take i ls) t) → (b || is_number t (get_or ls i no_line).holds) ≡ is_some (slot_of 0 (take (i + 1) ls) t)
marked_more ls i t b l e = ap (λ v. v || is_number t (get_or ls i no_line).holds) e ∙ sym (ap (λ v. is_some (slot_of 0 v t)) (take_more ls i no_line l) ∙ or_more 0 t (take i ls) (get_or ls i no_line))
