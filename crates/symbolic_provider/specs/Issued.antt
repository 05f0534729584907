-- The issued handles and the terms that they stand for.
use Rattle.std.specs.Prelude.{◌≡◌, ℕ, zero, suc, ◌<◌, ◌≤◌, Bool, true, false, ◌||◌, List, length, is_some, Some, None, ◌≢◌, refl}
use Rattle.std.proofs.Common.{sym, ap, ◌∙◌, ⊎_elim, arith, eq-eqb, ne_eqb}
use Rattle.std.proofs.lemmas.Bool.{cases_eq, cases_lt, false≢true}
use Rattle.deduction.specs.Term.{Term}
use Rattle.deduction.specs.Decide.{same_term}
use Rattle.deduction.proofs.Decide.{same_decides}
use Rattle.provider.specs.Meaning.{stands}
use Rattle.terms.specs.declared.node.TermNode.{TermNode}
use Rattle.terms.specs.Tree.{tree}
use Rattle.symbolic_provider.specs.State.{issued_below, is_held}

module _ (ts : List TermNode) where
  pub stands_in : (n a : ℕ) → a < n → stands (issued_below ts n) a ≡ Some (tree ts a)
  stands_in zero a h = absurd (omega arith)
  stands_in (suc n) a h =
      ⊎_elim
      (λ (e : n ≡ a). rw (eq-eqb n a e, e) refl)
      (λ (ne : n ≡ a → ⊥). rw (ne_eqb n a ne) (stands_in n a (omega (arith, ne))))
      (cases_eq n a)

  pub stands_out : (n a : ℕ) → n ≤ a → stands (issued_below ts n) a ≡ None
  stands_out zero a h = refl
  stands_out (suc n) a h = let ne : n ≡ a → ⊥ = λ e. omega arith in rw (ne_eqb n a ne) (stands_out n a (omega arith))

  -- only a handle below n stands for something, and for the term of its number
  pub below : (n a : ℕ) (t : Term) → stands (issued_below ts n) a ≡ Some t → (a < n) × (tree ts a ≡ t)
  below n a t h =
      ⊎_elim
      (λ (l : a < n). let e : Some (tree ts a) ≡ Some t = sym (stands_in n a l) ∙ h in (l, cc))
      (λ (g : n ≤ a). absurd (false≢true (ap is_some (sym (stands_out n a g) ∙ h))))
      (cases_lt a n)

  pub length_issued : (n : ℕ) → length (issued_below ts n) ≡ n
  length_issued zero = refl
  length_issued (suc n) = ap suc (length_issued n)

  -- the term of a handle is held
  pub held_in : (n a : ℕ) (t : Term) → a < n → tree ts a ≡ t → is_held (issued_below ts n) t ≡ true
  held_in zero a t h e = absurd (omega arith)
  held_in (suc n) a t h e =
      ⊎_elim
      (λ (q : n ≡ a). let s = (same_decides (tree ts n) t).1 (ap (tree ts) q ∙ e) in rw s refl)
      (λ (ne : n ≡ a → ⊥). rw (held_in n a t (omega (arith, ne)) e) (or_true (same_term (tree ts n) t)))
      (cases_eq n a)
    where
      or_true : (b : Bool) → (b || true) ≡ true
      or_true true = refl
      or_true false = refl

  -- a term that no handle stands for is not held
  pub held_out : (n : ℕ) (t : Term) → ((a : ℕ) → a < n → tree ts a ≢ t) → is_held (issued_below ts n) t ≡ false
  held_out zero t none = refl
  held_out (suc n) t none = by (same_term (tree ts n) t) refl (held_out n t (λ a l. none a (omega arith)))
    where
      by : (b : Bool) → same_term (tree ts n) t ≡ b → is_held (issued_below ts n) t ≡ false → (b || is_held (issued_below ts n) t) ≡ false
      by true e rest = absurd (none n (omega arith) ((same_decides (tree ts n) t).0 e))
      by false e rest = rest

-- terms that stay leave the handles as they are
pub issued_same : (ts us : List TermNode) (n : ℕ) → ((a : ℕ) → a < n → tree us a ≡ tree ts a) → issued_below us n ≡ issued_below ts n
issued_same ts us zero same = refl
issued_same ts us (suc n) same = rw (same n (omega arith), issued_same ts us n (λ a l. same a (omega arith))) refl
