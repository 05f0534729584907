-- Storing the value of a plan is what its making does.
use Rattle.std.proofs.Common.{◌≡◌, ℕ, true, cond, List, [], ◌∷◌, ◌++◌, length, is_some, Some, Ok, sym, refl, ap, ◌∙◌, arith, eq-eqb, ne_eqb}
use Rattle.bounded.specs.Items.{items}
use Rattle.provider.specs.declared.Making.{Making}
use Rattle.provider.specs.Meaning.{stands, Answers}
use Rattle.byte_provider.specs.declared.store.ByteProvider.{ByteProvider}
use Rattle.byte_provider.specs.declared.plan.Plan.{Plan}
use Rattle.byte_provider.specs.declared.span.Span.{Span}
use Rattle.byte_provider.specs.Held.{no_span}
use Rattle.byte_provider.specs.Outcome.{Done}
use Rattle.byte_provider.specs.Planned.{PlanFor}
use Rattle.byte_provider.specs.Plans.{written, added}
use Rattle.byte_provider.specs.State.{bytes_of, count_of, issued_of, issued_below, made_of, fits_of, meaning_of, has_room, free, stored, room}
use Rattle.byte_provider.specs.Values.{byte_algebra}
use Rattle.byte_provider.specs.Writing.{Written}
use Rattle.byte_provider.specs.Issued.{below, length_issued, issued_more, issued_pushed}

-- the next handle for a value is what the making answers
module _ (s s' : ByteProvider) (m : Making) (x : List ℕ) (makes : made_of s m ≡ Some x) (fits : fits_of s m ≡ true) (is : issued_of s' ≡ (count_of s, x) ∷ issued_of s) (bytes : bytes_of s' ≡ bytes_of s ++ stored m x) where
  answers : Answers byte_algebra meaning_of s m (Ok (count_of s)) s'
  answers = record {
    verdict = (ap is_some makes, fits);
    answer = ap (λ l. stands l (count_of s)) is ∙ ap (λ v. cond v (Some x) (stands (issued_of s) (count_of s))) (eq-eqb (count_of s) (count_of s) refl) ∙ sym makes;
    kept = λ h y e.
        let ne : count_of s ≡ h → ⊥ = λ q. let l = below (bytes_of s) (items s.spans) (count_of s) h y e in omega (arith, l, q) in
        ap (λ l. stands l h) is ∙ ap (λ v. cond v (Some x) (stands (issued_of s) h)) (ne_eqb (count_of s) h ne) ∙ e;
  }

  pub done : Done s m (Ok (count_of s)) s'
  done = record {
    answers = answers;
    outcome = record {
      value = x;
      makes = makes;
      fits = fits;
      handle = sym (length_issued (bytes_of s) (items s.spans) (count_of s));
      issued = is;
      bytes = bytes;
    };
  }

module _ (s s' : ByteProvider) (plan : Plan) (p : Span) (w : Written s.table plan p s'.table) (next : items s'.spans ≡ items s.spans ++ p ∷ []) (roomy : has_room s plan ≡ true) where
  -- the handles after the value of a plan was stored
  stored_issued : issued_of s' ≡ (count_of s, written (bytes_of s) plan) ∷ issued_of s
  stored_issued =
      let spans = items s.spans in
      ap (λ v. issued_below (bytes_of s') v (length v)) next
      ∙ issued_pushed (bytes_of s') spans p
      ∙ ap (λ v. (count_of s, v) ∷ issued_below (bytes_of s') spans (count_of s)) w.value
      ∙ ap (λ v. (count_of s, written (bytes_of s) plan) ∷ v)
      (ap (λ v. issued_below v spans (count_of s)) w.adds.bytes ∙ issued_more (bytes_of s) spans (added (bytes_of s) plan) (count_of s) (λ k h. s.within k no_span h))

  pub stored_plan : (m : Making) → PlanFor s m plan → Done s m (Ok (count_of s)) s'
  stored_plan m f =
      done s s' m (written (bytes_of s) plan) f.makes
      (ap (room s m) f.makes ∙ ap (λ v. free s (length v)) f.adds ∙ roomy)
      stored_issued
      (w.adds.bytes ∙ ap (λ v. bytes_of s ++ v) (sym f.adds))
