-- Runs of bytes of one class.
use Rattle.std.proofs.Common.{◌≡◌, ℕ, ◌+◌, ◌<◌, ◌≤◌, List, length, get_or, sym, ap, ◌∙◌, ⊎_elim, arith, below_more}
use Rattle.std.proofs.str.Laws.{order}
use Rattle.scan.specs.declared.byte.ByteClass.{ByteClass}
use Rattle.scan.specs.Bytes.{class, AllOf}

pub all_more : (k : ByteClass) (text : List ℕ) (p q : ℕ) → AllOf k text p q → class (get_or text q 0) ≡ k → AllOf k text p (q + 1)
all_more k text p q h here =
    λ i lo hi. below_more (λ j. p ≤ j → class (get_or text j 0) ≡ k) q (λ j jl jo. h j jo jl) (λ _. here) i hi lo

-- a run that begins with a byte of its class is not empty
pub some_run : (k : ByteClass) (text : List ℕ) (p q : ℕ) → p < length text → class (get_or text p 0) ≡ k → p ≤ q
    → (q < length text → class (get_or text q 0) ≡ k → ⊥) → p < q
some_run k text p q lt is le stops =
    ⊎_elim (λ h. h)
    (λ h. let e : p ≡ q = omega arith in absurd (stops (omega arith) (ap (λ i. class (get_or text i 0)) (sym e) ∙ is)))
    (order p q)

-- a longest run ends at one place only
run_once : (k : ByteClass) (text : List ℕ) (p a b : ℕ) → p ≤ a → b ≤ length text → AllOf k text p b → (a < length text → class (get_or text a 0) ≡ k → ⊥) → a < b → ⊥
run_once k text p a b lo hi all stops lt = stops (omega arith) (all a lo lt)

pub same_end : (k : ByteClass) (text : List ℕ) (p a b : ℕ) → p ≤ a → p ≤ b → a ≤ length text → b ≤ length text → AllOf k text p a → AllOf k text p b
    → (a < length text → class (get_or text a 0) ≡ k → ⊥) → (b < length text → class (get_or text b 0) ≡ k → ⊥) → a ≡ b
same_end k text p a b la lb ha hb aa ab sa sb =
    ⊎_elim (λ h. absurd (run_once k text p a b la hb ab sa h))
    (λ h. ⊎_elim (λ g. absurd (run_once k text p b a lb ha aa sb g)) (λ g. omega arith) (order b a))
    (order a b)
