-- A value that is sealed and opened again, step by step.
use Rattle.std.proofs.Common.{◌≡◌, ℕ, true, ◌⊎◌, is_some as option_is_some, Some, None, Ok, Err, Result, refl, ◌∙◌, ⊎_elim}
use Rattle.provider.specs.declared.Making.TheVariants.{Seal, Open, Mate}
use Rattle.provider.specs.declared.ProviderError.{ProviderError}
use Rattle.provider.specs.Algebra.{Algebra, Seals}
use Rattle.provider.specs.Meaning.{Meaning, stands, made, Answers, Holds}
use Rattle.provider.specs.Reopening.{Reopened}
use Rattle.provider.proofs.Steps.{is_some, on_none, full_only, answered, not_granted}

module _ {S X : Type 0} (P : X → Type 0) (f : Algebra X) (m : S → Meaning X) (seals : Seals P f) (holds : (s : S) → Holds P (m s)) where
  -- nothing is sealed where an operand was never issued
  seals_nothing : (s : S) (c k : ℕ) → (stands (m s).issued c ≡ None) ⊎ (stands (m s).issued k ≡ None) → made f (m s).issued (Seal c k) ≡ None
  seals_nothing s c k =
      ⊎_elim
      (λ (e : stands (m s).issued c ≡ None). rw e refl)
      (λ (e : stands (m s).issued k ≡ None). rw e (on_none (stands (m s).issued c)))

  module _ {s s1 : S} {c k n : ℕ} (sealed : Answers f m s (Seal c k) (Ok n) s1) where
    -- the key has its mate still
    has_mate : (y : X) → stands (m s).issued k ≡ Some y → option_is_some (f.mate y) ≡ true → option_is_some (made f (m s1).issued (Mate k)) ≡ true
    has_mate y e h = rw (sealed.kept k y e) h

    -- stopped at the mate
    pub at_mate : {s2 : S} (e : ProviderError) → Answers f m s1 (Mate k) (Err e) s2 → Reopened f m s c k (Err e) s2
    at_mate e mated = record {
      content = λ x y ec ek h. full_only e (has_mate y ek h) mated;
      unissued = λ o. not_granted (seals_nothing s c k o) sealed;
      kept = λ h x e. mated.kept h x (sealed.kept h x e);
    }

    module _ {s2 : S} {o : ℕ} (mated : Answers f m s1 (Mate k) (Ok o) s2) where
      -- what the opening makes is the content
      opens_to_lem : (x y : X) → stands (m s).issued c ≡ Some x → stands (m s).issued k ≡ Some y → option_is_some (f.mate y) ≡ true → made f (m s2).issued (Open n o) ≡ Some x
      opens_to_lem x y ec ek h =
          let t = is_some (f.seal x y) (seals.never_wrong x y h) in
          let v = is_some (f.mate y) h in
          let en : stands (m s1).issued n ≡ Some t.0 = sealed.answer ∙ rw (ec, ek) t.1 in
          let eo : stands (m s2).issued o ≡ Some v.0 = mated.answer ∙ rw (sealed.kept k y ek) v.1 in
          rw (mated.kept n t.0 en, eo) (seals.with_mate x y v.0 t.0 (holds s c x ec) (holds s k y ek) v.1 t.1)

      pub at_opening : {s3 : S} (r : Result ℕ ProviderError) → Answers f m s2 (Open n o) r s3 → Reopened f m s c k r s3
      at_opening r opened = record {
        content = λ x y ec ek h. answered r (opens_to_lem x y ec ek h) opened;
        unissued = λ u. not_granted (seals_nothing s c k u) sealed;
        kept = λ h x e. opened.kept h x (mated.kept h x (sealed.kept h x e));
      }
