-- The four cases of opening: three derivations, and one set of givens that is saturated and from which the content is not composable.
use Rattle.std.proofs.Common.{◌≡◌, ℕ, List, [], ◌∷◌, sym, refl, subst, inl, inr, arith}
use Rattle.deduction.specs.Term.{party, number, shared, public, table, pair, sealed, entry, Term, name, built, mate, opener, In, among}
use Rattle.deduction.specs.Derive.{Derives, opening, looking_up}
use Rattle.deduction.specs.Compose.{Composable, Saturated}
use Rattle.deduction.specs.Theorems.{OpenerCases}
use Rattle.deduction.proofs.Derive.{derives_given, derives_way}
use Rattle.deduction.proofs.Compose.{held_composable, derivable_composable}

-- two given terms of which one is the opener of the other's key
opens : (c k : Term) → Derives (opener k ∷ built sealed c k ∷ []) c
opens c k =
    let givens : Term → Type 0 = among (opener k ∷ built sealed c k ∷ []) in
    derives_way givens (opening {k = k} (derives_given givens (built sealed c k) (inr (inl refl))) (derives_given givens (opener k) (inl refl)))

-- the givens of the second case hold no pair, no mate and no number, so they are saturated and the number is not composable
module _ (m k : ℕ) where
  abbrev public_givens : List Term
  public_givens = name public k ∷ built sealed (name number m) (name public k) ∷ []

  unpaired : (a b : Term) → In (built pair a b) public_givens → ⊥
  unpaired a b (inl e) = let z : ◌≡◌ {A = ℕ} 0 1 = cc in omega arith
  unpaired a b (inr (inl e)) = let z : ◌≡◌ {A = ℕ} 0 1 = cc in omega arith
  unpaired a b (inr (inr h)) = h

  unmated : (a : Term) → In (mate a) public_givens → ⊥
  unmated a (inl e) = let z : ◌≡◌ {A = ℕ} 0 1 = cc in omega arith
  unmated a (inr (inl e)) = let z : ◌≡◌ {A = ℕ} 0 1 = cc in omega arith
  unmated a (inr (inr h)) = h

  unnumbered : In (name number m) public_givens → ⊥
  unnumbered (inl e) = let z : ◌≡◌ {A = ℕ} 0 1 = cc in omega arith
  unnumbered (inr (inl e)) = let z : ◌≡◌ {A = ℕ} 0 1 = cc in omega arith
  unnumbered (inr (inr h)) = h

  unopened : (c e : Term) → In (built sealed c e) public_givens → Composable public_givens (opener e) → Composable public_givens c
  unopened c e (inl i) o = let z : ◌≡◌ {A = ℕ} 0 1 = cc in absurd (omega arith)
  unopened c e (inr (inl i)) o =
      let key : name public k ≡ e = cc in
      absurd (unmated (name public k) (subst (λ x. Composable public_givens (opener x)) (sym key) o))
  unopened c e (inr (inr h)) o = absurd h

  public_saturated : Saturated public_givens
  public_saturated = record { lefts = λ a b h. absurd (unpaired a b h); rights = λ a b h. absurd (unpaired a b h); contents = unopened }

  content_underivable : Derives public_givens (name number m) → ⊥
  content_underivable d =
      unnumbered (derivable_composable (among public_givens) (among public_givens) (held_composable (among public_givens)) public_saturated (name number m) d)

-- the entry is looked up, and is the opener of its mate
entry_opens : (m t p : ℕ) → Derives (name table t ∷ name party p ∷ built sealed (name number m) (mate (built entry (name table t) (name party p))) ∷ []) (name number m)
entry_opens m t p =
    let key : Term = built entry (name table t) (name party p) in
    let givens : Term → Type 0 = among (name table t ∷ name party p ∷ built sealed (name number m) (mate key) ∷ []) in
    let content-sealed = derives_given givens (built sealed (name number m) (mate key)) (inr (inr (inl refl))) in
    let key-found = derives_way givens (looking_up (derives_given givens (name table t) (inl refl)) (derives_given givens (name party p) (inr (inl refl))) refl refl) in
    derives_way givens (opening {k = mate key} content-sealed key-found)

pub opener_cases_lem : OpenerCases
opener_cases_lem m k t p =
    record {
      shared_opens = opens (name number m) (name shared k);
      public_does_not_open = content_underivable m k;
      public_opens_mate = opens (name number m) (mate (name public k));
      entry_opens_mate = entry_opens m t p;
    }
