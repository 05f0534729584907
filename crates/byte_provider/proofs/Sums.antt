-- A sum modulo 256, taken at each step.
use Rattle.std.proofs.Common.{◌≡◌, ℕ, ◌+◌, ◌%◌, List, refl, arith}
use Rattle.std.specs.Prelude.{sum}
use Rattle.std.specs.List.{fold}
use Rattle.std.proofs.lemmas.List.Folds.{fold_along}

pub fold_sum : (xs : List ℕ) → fold (λ s b. (s + b) % 256) 0 xs ≡ sum xs % 256
fold_sum xs = fold_along (λ s b. (s + b) % 256) (λ s b. s + b) (λ (m n : ℕ). m ≡ n % 256) (λ m n x e. omega (arith, e)) 0 0 xs refl
