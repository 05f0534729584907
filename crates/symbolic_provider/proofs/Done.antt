-- What each sort of answer does, whole.
use Rattle.std.proofs.Common.{◌≡◌, ℕ, ◌+◌, ◌<◌, true, false, ltb, ◌∷◌, length, is_some, Some, None, Ok, Err, sym, refl, ap, ◌∙◌, add-one, arith, le-ltb, lt-ltb, eq-eqb, ne_eqb}
use mathlib.Core.Bool.{false≢true}
use Rattle.deduction.specs.Term.{Term}
use Rattle.provider.specs.declared.Making.{Making}
use Rattle.provider.specs.declared.ProviderError.TheVariants.{Wrong, Full}
use Rattle.provider.specs.Meaning.{stands}
use Rattle.terms.specs.Tree.{tree}
use Rattle.symbolic_provider.specs.declared.store.SymbolicProvider.{SymbolicProvider}
use Rattle.symbolic_provider.specs.Outcome.{Done}
use Rattle.symbolic_provider.specs.State.{nodes_of, issued_below, issued_of, room, made_of, fits_of}
use Rattle.symbolic_provider.specs.Issued.{stands_in, below, length_issued, held_in, held_out, issued_same}

-- a making that is wrong
pub wrong : (s s' : SymbolicProvider) (m : Making) → made_of s m ≡ None → s' ≡ s → Done s m (Err Wrong) s'
wrong s s' m none same = record {
  answers = record { verdict = ap is_some none; answer = same; kept = λ h x e. ap (λ v. stands (issued_of v) h) same ∙ e };
  outcome = (none, same);
}

module _ (s : SymbolicProvider) (m : Making) (t : Term) (makes : made_of s m ≡ Some t) where
  -- a new term where all places are taken
  pub full : (s' : SymbolicProvider) → ((a : ℕ) → a < length (nodes_of s) → tree (nodes_of s) a ≡ t → ⊥) → length (nodes_of s) ≡ 1024 → s' ≡ s → Done s m (Err Full) s'
  full s' none size same =
      let h = held_out (nodes_of s) (length (nodes_of s)) t none in
      let l : ltb (length (issued_of s)) 1024 ≡ false = le-ltb _ _ (omega (arith, length_issued (nodes_of s) (length (nodes_of s)), size)) in
      let f : fits_of s m ≡ false = ap (room (issued_of s)) makes ∙ rw (h, l) refl in
      record {
        answers = record { verdict = (ap is_some makes, f); answer = same; kept = λ a x e. ap (λ v. stands (issued_of v) a) same ∙ e };
        outcome = (ap is_some makes, f, same);
      }

  -- a term that is held, under its own handle
  pub held : (s' : SymbolicProvider) (h : ℕ) → h < length (nodes_of s) → tree (nodes_of s) h ≡ t → nodes_of s' ≡ nodes_of s → Done s m (Ok h) s'
  held s' h l e same =
      let is : issued_of s' ≡ issued_of s = ap (λ ts. issued_below ts (length ts)) same in
      let hd = held_in (nodes_of s) (length (nodes_of s)) h t l e in
      let f : fits_of s m ≡ true = ap (room (issued_of s)) makes ∙ rw hd refl in
      let st : stands (issued_of s') h ≡ Some t = ap (λ v. stands v h) is ∙ stands_in (nodes_of s) (length (nodes_of s)) h l ∙ ap Some e in
      record {
        answers = record { verdict = (ap is_some makes, f); answer = st ∙ sym makes; kept = λ a x q. ap (λ v. stands v a) is ∙ q };
        outcome = record {
          value = t;
          makes = makes;
          fits = f;
          issued = rw hd is;
          handle = st;
          next = λ q. absurd (false≢true (sym q ∙ hd));
        };
      }

  -- a new term, under the next handle
  pub new : (s' : SymbolicProvider) → ((a : ℕ) → a < length (nodes_of s) → tree (nodes_of s) a ≡ t → ⊥) → length (nodes_of s) < 1024
      → length (nodes_of s') ≡ length (nodes_of s) + 1
      → ((a : ℕ) → a < length (nodes_of s) → tree (nodes_of s') a ≡ tree (nodes_of s) a)
      → tree (nodes_of s') (length (nodes_of s)) ≡ t
      → Done s m (Ok (length (nodes_of s))) s'
  new s' none l more same e =
      let ts = nodes_of s in
      let us = nodes_of s' in
      let is : issued_of s' ≡ (length ts, t) ∷ issued_of s =
      ap (issued_below us) (more ∙ add-one (length ts)) ∙ ap (λ v. (length ts, v) ∷ issued_below us (length ts)) e ∙ ap (λ v. (length ts, t) ∷ v) (issued_same ts us (length ts) same) in
      let hd = held_out ts (length ts) t none in
      let f : fits_of s m ≡ true = ap (room (issued_of s)) makes ∙ rw (hd, lt-ltb (length (issued_of s)) 1024 (omega (arith, length_issued ts (length ts), l))) refl in
      let st : stands (issued_of s') (length ts) ≡ Some t = ap (λ v. stands v (length ts)) is ∙ rw (eq-eqb (length ts) (length ts) refl) refl in
      record {
        answers = record {
          verdict = (ap is_some makes, f);
          answer = st ∙ sym makes;
          kept = λ a x q.
              let lt = (below ts (length ts) a x q).0 in
              let ne : length ts ≡ a → ⊥ = λ z. omega (arith, lt, z) in
              ap (λ v. stands v a) is ∙ rw (ne_eqb (length ts) a ne) q;
        };
        outcome = record {
          value = t;
          makes = makes;
          fits = f;
          issued = rw hd is;
          handle = st;
          next = λ q. sym (length_issued ts (length ts));
        };
      }
