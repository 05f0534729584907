-- What `find_map` over the numbered items of a slice finds.
use Rattle.std.proofs.Common.{◌≡◌, ℕ, ◌<◌, Some, None, Option, List, length, get_or, ◌+◌, ◌≤◌, true, refl, sym, ap, ◌∙◌, subst, arith, MatchOption}
use denote.Ref.{Bor}
use denote.Param.Members.{Mut, Called}
use Rattle.std.specs.declared.iter.Enumerate.{Enumerate}
use Rattle.std.proofs.Common.{Iter}
use Rattle.std.specs.Bool.{IsTrue}
use Rattle.std.specs.Option.{IfSome, IsSomeAnd, option_map}
use Rattle.std.specs.Slice.Iter.{iter_steps, iter_rest}
use Rattle.std.specs.Iterator.Adapters.{enumerate_steps}
use Rattle.std.specs.Iterator.Runs.{Run, SomeRun, AllItemsGive, IsFirstToGive, CallKeepsClosure, ProjectsRun}
use Rattle.std.proofs.iter.Counts.{none-some}
use Rattle.std.proofs.iter.runs.Lists.{same_Some}
use Rattle.std.proofs.iter.runs.Sources.{iter_runs}
use Rattle.std.proofs.iter.runs.Adapters.{enumerate_runs}

module _ {A F B : Type 0} (g : Mut F ((ℕ × Bor A) × Unit {0}) (Option B)) (f : F) (s : Enumerate (Iter A)) (xs : List A) (source : iter_rest s.iter ≡ xs) (zero_count : s.count ≡ 0) (No : ℕ → A → Type 0) (Yes : ℕ → A → B → Type 0)
    (keeps : CallKeepsClosure g f) (no : (k : ℕ) (x : Bor A) → Called g f ((k, x), tt) None f → No k x.now) (yes : (k : ℕ) (x : Bor A) (y : B) → Called g f ((k, x), tt) (Some y) f → Yes k x.now y) (d : A) where
  -- the run of the slice behind a run
  behind : (p : Run (enumerate_steps iter_steps)) → p.from ≡ s → SomeRun iter_steps s.iter (λ q. ProjectsRun p q (λ x. x.1) × (q.whole ≡ p.whole))
  behind p e = (enumerate_runs iter_steps s s.iter refl zero_count p p.seen e).1

  -- a run is as long as the slice, if it is whole
  long : (p : Run (enumerate_steps iter_steps)) → p.from ≡ s → (p.len ≤ length xs) × (p.whole ≡ true → p.len ≡ length xs)
  long p e =
      let b = behind p e in
      let c = iter_runs b.0 b.0.seen in
      let r : length (iter_rest b.0.from) ≡ length xs = ap (λ i. length (iter_rest i)) b.1 ∙ ap length source in
      let n = b.2.0.0 in
      (omega (arith, c.0, r, n), λ w. omega (arith, c.1 (b.2.1 ∙ w), r, n))

  -- the item of a place is its number with the element there
  item : (p : Run (enumerate_steps iter_steps)) → p.from ≡ s → (k : ℕ) → k < p.len → (x : Bor A) × (p.at k ≡ Some (k, x)) × (x.now ≡ get_or xs k d)
  item p e k l = at (p.at k) refl is ((enumerate_runs iter_steps s s.iter refl zero_count p p.seen e).0 k)
    where
      is : option_map (λ y. y.now) (option_map (λ x. x.1) (p.at k)) ≡ Some (get_or xs k d)
      is =
          let b = behind p e in
          let c = iter_runs b.0 b.0.seen in
          let n = b.2.0.0 in
          ap (option_map (λ y. y.now)) (sym (b.2.0.2 k)) ∙ c.2 k d (omega (arith, l, n)) ∙ ap (λ i. Some (get_or (iter_rest i) k d)) b.1 ∙ ap (λ ys. Some (get_or ys k d)) source

      at : (o : Option (ℕ × Bor A)) → p.at k ≡ o → option_map (λ y. y.now) (option_map (λ x. x.1) o) ≡ Some (get_or xs k d) → MatchOption o (Unit {0}) (λ x. x.0 ≡ k)
          → (x : Bor A) × (p.at k ≡ Some (k, x)) × (x.now ≡ get_or xs k d)
      at None q v n = absurd (none-some v)
      at (Some (j, x)) q v n = (x, q ∙ ap (λ m. Some (m, x)) n, same_Some _ _ v)

  -- an answer at the first item that has one, or none at any
  pub found : (r : Option B) → SomeRun (enumerate_steps iter_steps) s (λ p. MatchOption r (IsTrue p.whole × AllItemsGive p g f None) (λ y. (i : ℕ) × (i < p.len) × (p.len ≡ i + 1) × IsFirstToGive p g f (Some y) None i))
      → MatchOption r ((k : ℕ) → k < length xs → No k (get_or xs k d)) (λ y. (k : ℕ) × (k < length xs) × Yes k (get_or xs k d) y × ((j : ℕ) → j < k → No j (get_or xs j d)))
  found None (p, e, (w, h)) = λ k l.
      let n : k < p.len = omega (arith, (long p e).1 w) in
      let i = item p e k n in
      subst (No k) i.2 (no k i.0 (subst (λ o. IfSome o (λ x. Called g f (x, tt) None f)) i.1 (h keeps k)))
  found (Some y) (p, e, (k, l, m, h)) =
      let t = h keeps in
      let i = item p e k l in (
        k,
        omega (arith, (long p e).0),
        subst (λ a. Yes k a y) i.2 (yes k i.0 y (subst (λ o. IsSomeAnd o (λ x. Called g f (x, tt) (Some y) f)) i.1 t.0)),
        λ j u.
            let v = item p e j (omega arith) in
            subst (No j) v.2 (no j v.0 (subst (λ o. IsSomeAnd o (λ x. Called g f (x, tt) None f)) v.1 (t.1 j u))),
      )
