-- What is sealed under a shared key and opened with it arrives.
use Rattle.std.proofs.Common.{◌≡◌, ℕ, ◌≤◌, Bool, true, false, List, is_some as option_is_some, Some, None, Ok, Option, sym, refl, ◌∙◌, inl, arith}
use mathlib.Core.Bool.{false≢true}
use Rattle.provider.specs.declared.Making.TheVariants.{Seal, Open}
use Rattle.provider.specs.Algebra.{Algebra, shared, Mates, Seals}
use Rattle.provider.specs.Meaning.{Meaning, stands, on, Answers, Same, Holds}
use Rattle.provider.specs.Reopening.{Reopened}
use Rattle.provider.proofs.Steps.{is_some}
use Rattle.passage.specs.Opening.{Opened}

-- two handles that stand for one value are the same
same_yes : {X : Type 0} (is : List (ℕ × X)) (a b : ℕ) (x : X) (r : Bool) → stands is a ≡ Some x → stands is b ≡ Some x → Same is a b r → r ≡ true
same_yes is a b x true ea eb s = refl
same_yes is a b x false ea eb s = absurd (s x ea eb)

-- what was compared is what the opening made
pub opened_is : {S X : Type 0} (f : Algebra X) (m : S → Meaning X) (s s' : S) (sealed opener plan h : ℕ) (b : Bool) → Answers f m s (Open sealed opener) (Ok h) s' → Same (m s').issued plan h b → Opened f m s sealed opener plan b s'
opened_is f m s s' sealed opener plan h true a e = (e.0, e.1, sym a.answer ∙ e.2)
opened_is f m s s' sealed opener plan h false a e = λ x ep eo. e x ep (a.answer ∙ eo)

-- where a pair of handles was sealed, the content stands for a value
content : {X : Type 0} (o p : Option X) (g : X → X → Option X) → option_is_some (on o (λ x. on p (g x))) ≡ true → (x : X) × (o ≡ Some x)
content None p g h = absurd (false≢true h)
content (Some x) p g h = (x, refl)

module _ {S X : Type 0} (P : X → Type 0) (f : Algebra X) (m : S → Meaning X) (mates : Mates P f) (seals : Seals P f) (holds : (s : S) → Holds P (m s)) where
  module _ (s1 s2 s3 s4 : S) (plan key again sealed opened i : ℕ) (small : i ≤ 65535)
      (ek : stands (m s1).issued key ≡ Some (f.atom 2 i))
      (re : Reopened f m s1 plan key (Ok again) s2)
      (se : Answers f m s2 (Seal plan key) (Ok sealed) s3)
      (op : Answers f m s3 (Open sealed key) (Ok opened) s4) where
    key_kept : stands (m s2).issued key ≡ Some (f.atom 2 i)
    key_kept = re.kept key (f.atom 2 i) ek

    -- the plan stands for a value once it is sealed
    plan_value_lem : (x : X) × (stands (m s2).issued plan ≡ Some x)
    plan_value_lem = content (stands (m s2).issued plan) (stands (m s2).issued key) f.seal se.verdict.0

    sealed_value : (x : X) → stands (m s2).issued plan ≡ Some x → (y : X) × (f.seal x (f.atom 2 i) ≡ Some y)
    sealed_value x e = is_some (f.seal x (f.atom 2 i)) (seals.never_wrong x (f.atom 2 i) (mates.never_wrong (f.atom 2 i) (shared i small)))

    -- the plan opened again stands for the plan's value
    pub opens_again : (r : Bool) → Same (m s2).issued plan again r → r ≡ true
    opens_again r e = by (stands (m s1).issued plan) refl
      where
        by : (o : Option X) → stands (m s1).issued plan ≡ o → r ≡ true
        by None h = let z : ◌≡◌ {A = ℕ} 0 1 = cc (re.unissued (inl h)).0 in absurd (omega arith)
        by (Some x) h =
            same_yes (m s2).issued plan again x r (re.kept plan x h)
            (re.content x (f.atom 2 i) h ek (mates.never_wrong (f.atom 2 i) (shared i small))) e

    pub arrives : (r : Bool) → Same (m s4).issued plan opened r → r ≡ true
    arrives r e =
        let v = plan_value_lem in
        let x = v.0 in
        let y = sealed_value x v.1 in
        let es : stands (m s3).issued sealed ≡ Some y.0 = se.answer ∙ rw (v.1, key_kept) y.1 in
        let e3 : stands (m s3).issued key ≡ Some (f.atom 2 i) = se.kept key (f.atom 2 i) key_kept in
        let eo : stands (m s4).issued opened ≡ Some x = op.answer ∙ rw (es, e3) (seals.with_shared x y.0 i (holds s2 plan x v.1) small y.1) in
        let ep : stands (m s4).issued plan ≡ Some x = op.kept plan x (se.kept plan x v.1) in
        same_yes (m s4).issued plan opened x r ep eo e
