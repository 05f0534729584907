-- What `find_map` over a range of numbers finds.
use Rattle.std.proofs.Common.{◌≡◌, ℕ, ◌+◌, ◌-◌, ◌<◌, ◌≤◌, Some, None, Option, ap, ◌∙◌, subst, arith, MatchOption}
use Rattle.std.specs.declared.ops.Range.{Range}
use Rattle.std.specs.Bool.{IsTrue}
use Rattle.std.specs.Option.{IfSome, IsSomeAnd, option_map}
use Rattle.std.specs.Iterator.Runs.{Run, SomeRun, AllItemsGive, IsFirstToGive, CallKeepsClosure}
use Rattle.std.proofs.iter.Yields.{nat_range_steps}
use Rattle.std.proofs.iter.runs.Sources.{range_runs}
use denote.Param.Members.{Mut, Called}

module _ {F B : Type 0} (g : Mut F (ℕ × Unit {0}) (Option B)) (f : F) (s : Range ℕ) (a b : ℕ) (range : s ≡ record { start = a; end = b }) (No : ℕ → Type 0) (Yes : ℕ → B → Type 0)
    (keeps : CallKeepsClosure g f) (no : (k : ℕ) → Called g f (k, tt) None f → No k) (yes : (k : ℕ) (y : B) → Called g f (k, tt) (Some y) f → Yes k y) where
  -- how a run from there counts up
  begins : (p : Run nat_range_steps) → p.from ≡ s → (p.from.start ≡ a) × (p.from.end ≡ b)
  begins p e = (ap (λ (r : Range ℕ). r.start) (e ∙ range), ap (λ (r : Range ℕ). r.end) (e ∙ range))

  -- the item of a place, by its number
  item : (p : Run nat_range_steps) → p.from ≡ s → (k : ℕ) → a ≤ k → k - a < p.len → p.at (k - a) ≡ Some k
  item p e k l u =
      let c = range_runs p p.seen in
      let z : p.from.start + (k - a) ≡ k = omega (arith, begins p e) in
      by (p.at (k - a)) (c.3 (k - a) u ∙ ap Some z)
    where
      by : (o : Option ℕ) → option_map (λ y. y) o ≡ Some k → o ≡ Some k
      by None q = q
      by (Some x) q = q

  -- an answer at the first number that has one, or none at any
  pub found : (r : Option B) → SomeRun nat_range_steps s (λ p. MatchOption r (IsTrue p.whole × AllItemsGive p g f None) (λ y. (i : ℕ) × (i < p.len) × (p.len ≡ i + 1) × IsFirstToGive p g f (Some y) None i))
      → MatchOption r ((k : ℕ) → a ≤ k → k < b → No k) (λ y. (k : ℕ) × (a ≤ k) × Yes k y × ((j : ℕ) → a ≤ j → j < k → No j))
  found None (p, e, (w, h)) = λ k u v.
      let c = range_runs p p.seen in
      let n : k - a < p.len = omega (arith, c.1 w, begins p e) in
      no k (subst (λ o. IfSome o (λ x. Called g f (x, tt) None f)) (item p e k u n) (h keeps (k - a)))
  found (Some y) (p, e, (i, l, m, h)) =
      let d = h keeps in
      let z : a + i - a ≡ i = omega arith in (
        a + i,
        omega arith,
        yes (a + i) y (subst (λ o. IsSomeAnd o (λ x. Called g f (x, tt) (Some y) f)) (item p e (a + i) (omega arith) (omega arith)) (rw z d.0)),
        λ j u v. no j (subst (λ o. IsSomeAnd o (λ x. Called g f (x, tt) None f)) (item p e j u (omega arith)) (d.1 (j - a) (omega arith))),
      )
