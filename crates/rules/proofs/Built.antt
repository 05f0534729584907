-- One more two-part term or mate, which no number stood for before.
use Rattle.std.proofs.Common.{◌≡◌, ℕ, zero, suc, ◌+◌, List, [], ◌∷◌, ◌++◌, length, Some, None, sym, refl, ap, ◌∙◌, subst, inl, inr, arith}
use Rattle.deduction.specs.Term.{Kind, public, Form, Term, name, built, mate, mate_of, PartsFit, KeyForm, Formed, In}
use Rattle.deduction.proofs.Members.{in_left}
use Rattle.rules.specs.State.{Told, formed, mated, nth, party_names}
use Rattle.rules.specs.History.{History, Adds, Stands, opens, parties, Opens}
use Rattle.rules.specs.Invariant.{Numbered}
use Rattle.rules.proofs.Find.{some_none}
use Rattle.rules.proofs.Nth.{some_is, nth_in}
use Rattle.rules.proofs.Numbers.{News, numbered_news}

module _ (past : History) (ts : List Term) (v : Numbered past ts) where
  -- the facts that a new term owes
  module _ (d : Told) (t : Term)
      (here : (n : ℕ) (u : Term) → n ≡ length ts → u ≡ t → Adds (Stands past) d n u)
      (there : (n : ℕ) (u : Term) → Adds (Stands past) d n u → (n ≡ length ts) × (u ≡ t))
      (none : opens d ≡ 0) (unopened : (p : ℕ) (u : Term) → Opens (parties past) d p u → ⊥)
      (well : Formed t) (unseen : In t ts → ⊥) (compound : (k : Kind) (i : ℕ) → t ≡ name k i → ⊥) (nameless : party_names (t ∷ []) ≡ [])
      (Parts-in : (f : Form) (a b : Term) → t ≡ built f a b → In a ts × In b ts) (key_in : (k : Term) → t ≡ mate k → In k ts) where
    one_news : News past ts d (t ∷ [])
    one_news =
        record {
          adds = adds;
          added = λ n u a. let q = there n u a in let q0 = q.0 in (zero, omega arith, ap Some (sym q.1));
          well = well_one;
          first_in = λ f a b h. in_left a ts (t ∷ []) (two f a b h).0;
          second_in = λ f a b h. in_left b ts (t ∷ []) (two f a b h).1;
          key_in = key;
          owned = λ x k i e. absurd (unnamed k i (nth_in (t ∷ []) x (name k i) e));
          unseen = seen;
          once = once;
          mates_in = λ i h. absurd (unnamed public i h);
          counted = none ∙ ap length (sym nameless);
          opened_to = λ p u o. absurd (unopened p u o);
          opened_from = λ x u e. absurd (some_none None (sym (ap (λ z. nth z x) nameless) ∙ e) refl);
        }
      where
        adds : (x : ℕ) (u : Term) → nth (t ∷ []) x ≡ Some u → Adds (Stands past) d (x + length ts) u
        adds zero u e = here (0 + length ts) u (omega arith) (sym (some_is e))
        adds (suc x) u e = absurd (some_none None e refl)

        well_one : (u : Term) → In u (t ∷ []) → Formed u
        well_one u (inl e) = subst Formed e well
        well_one u (inr h) = absurd h

        two : (f : Form) (a b : Term) → In (built f a b) (t ∷ []) → In a ts × In b ts
        two f a b (inl e) = Parts-in f a b e
        two f a b (inr h) = absurd h

        key : (k : Term) → In (mate k) (t ∷ []) → In k (ts ++ (t ∷ []))
        key k (inl e) = in_left k ts (t ∷ []) (key_in k e)
        key k (inr h) = absurd h

        unnamed : (k : Kind) (i : ℕ) → In (name k i) (t ∷ []) → ⊥
        unnamed k i (inl e) = compound k i e
        unnamed k i (inr h) = h

        seen : (u : Term) → In u (t ∷ []) → In u ts → ⊥
        seen u (inl e) i = unseen (subst (λ x. In x ts) (sym e) i)
        seen u (inr h) i = h

        once : (x y : ℕ) (u : Term) → nth (t ∷ []) x ≡ Some u → nth (t ∷ []) y ≡ Some u → x ≡ y
        once zero zero u e f = refl
        once zero (suc y) u e f = absurd (some_none None f refl)
        once (suc x) y u e f = absurd (some_none None e refl)

  -- a number stands for one term
  pub stands_one : (n : ℕ) (t u : Term) → nth ts n ≡ Some t → Stands past n u → u ≡ t
  stands_one n t u e s = some_is (sym (v.stands_to n u s) ∙ e)

  -- a two-part term of known parts
  pub formed_numbered : (f : Form) (a b : ℕ) (x y : Term) → nth ts a ≡ Some x → nth ts b ≡ Some y → PartsFit f x y → (In (built f x y) ts → ⊥)
      → Numbered (formed f a b (length ts) ∷ past) (ts ++ (built f x y ∷ []))
  formed_numbered f a b x y ea eb fit unseen =
      numbered_news past ts v (formed f a b (length ts)) (built f x y ∷ [])
      (one_news (formed f a b (length ts)) (built f x y)
      (λ n u e q. (e, (x, y, v.stands_from a x ea, v.stands_from b y eb, q)))
      (λ n u w. (w.0, w.1.4 ∙ (ap (λ z. built f z w.1.1) (stands_one a x w.1.0 ea w.1.2) ∙ ap (built f x) (stands_one b y w.1.1 eb w.1.3))))
      refl (λ p u o. o)
      (v.formed x (nth_in ts a x ea), v.formed y (nth_in ts b y eb), fit) unseen
      (λ k i e. let z : ◌≡◌ {A = ℕ} 0 1 = cc in omega arith) refl
      (λ g c d e. let ec : x ≡ c = cc in let ed : y ≡ d = cc in (subst (λ z. In z ts) ec (nth_in ts a x ea), subst (λ z. In z ts) ed (nth_in ts b y eb)))
      (λ k e. let z : ◌≡◌ {A = ℕ} 0 1 = cc in absurd (omega arith)))

  -- the mate of a known entry
  pub mated_numbered : (a : ℕ) (f : Form) (x y : Term) → nth ts a ≡ Some (built f x y) → KeyForm f → (In (mate (built f x y)) ts → ⊥)
      → Numbered (mated a (length ts) ∷ past) (ts ++ (mate (built f x y) ∷ []))
  mated_numbered a f x y ea key unseen =
      numbered_news past ts v (mated a (length ts)) (mate (built f x y) ∷ [])
      (one_news (mated a (length ts)) (mate (built f x y))
      (λ n u e q. (e, (built f x y, v.stands_from a (built f x y) ea, q)))
      (λ n u w. (w.0, w.1.2 ∙ ap mate_of (stands_one a (built f x y) w.1.0 ea w.1.1)))
      refl (λ p u o. o)
      (v.formed (built f x y) (nth_in ts a (built f x y) ea), key) unseen
      (λ k i e. let z : ◌≡◌ {A = ℕ} 0 1 = cc in omega arith) refl
      (λ g c d e. let z : ◌≡◌ {A = ℕ} 0 1 = cc in absurd (omega arith))
      (λ k e. let q : built f x y ≡ k = cc in subst (λ z. In z ts) q (nth_in ts a (built f x y) ea)))
