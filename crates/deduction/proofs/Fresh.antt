-- Fresh names added to the givens and to the held terms: no held term contains one, so none makes an opener of a held sealed term composable.
use Rattle.std.proofs.Common.{◌≡◌, ℕ, ◌⊎◌, ◌↔◌, List, ◌++◌, sym, refl, subst, inl, inr, arith}
use Rattle.deduction.specs.Term.{Kind, party, number, shared, public, table, function, Form, pair, sealed, Term, name, built, mate, opener, Occurs, In, among}
use Rattle.deduction.specs.Derive.{DerivesFrom, FreshFor}
use Rattle.deduction.specs.Compose.{ComposableFrom, Represents}
use Rattle.deduction.specs.Theorems.{FreshNamesKeepEquivalence}
use Rattle.deduction.proofs.Members.{in_either, in_both}
use Rattle.deduction.proofs.Derive.{derives_given, derives_names, derives_grow}
use Rattle.deduction.proofs.Compose.{held_composable, composable_map, represents_equivalent, represents_same}

-- the opener of a key has no name that the key has not
pub opener_names : (k : Kind) (i : ℕ) (e : Term) → Occurs k i (opener e) → Occurs k i e
opener_names k i (name party j) o = o
opener_names k i (name number j) o = o
opener_names k i (name shared j) o = o
opener_names k i (name public j) o = o
opener_names k i (name table j) o = o
opener_names k i (name function j) o = o
opener_names k i (built f a b) o = o
opener_names k i (mate e) o = o

-- a fresh term contains its own name
fresh_occurs : (G : Term → Type 0) (t : Term) (f : FreshFor G t) → Occurs f.kind f.identity t
fresh_occurs G t f = go f.kind f.identity f.shape
  where
    go : (k : Kind) (i : ℕ) → (t ≡ name k i) ⊎ ((k ≡ public) × (t ≡ mate (name k i))) → Occurs k i t
    go k i (inl e) = subst (Occurs k i) (sym e) (refl, refl)
    go k i (inr e) = subst (Occurs k i) (sym e.1) (refl, refl)

-- no two-part term is fresh
fresh_unbuilt : (G : Term → Type 0) (f : Form) (a b : Term) → FreshFor G (built f a b) → ⊥
fresh_unbuilt G f a b w = go w.kind w.identity w.shape
  where
    go : (k : Kind) (i : ℕ) → (built f a b ≡ name k i) ⊎ ((k ≡ public) × (built f a b ≡ mate (name k i))) → ⊥
    go k i (inl e) = let z : ◌≡◌ {A = ℕ} 0 1 = cc in omega arith
    go k i (inr e) = let e' = e.1 in let z : ◌≡◌ {A = ℕ} 0 1 = cc in omega arith

module _ (G H F : Term → Type 0) (r : Represents H G) (fresh : (t : Term) → F t → FreshFor G t) where
  abbrev With : (Term → Type 0) → Term → Type 0
  With S t = S t ⊎ F t

  -- no fresh name occurs in the term
  abbrev Clean : Term → Type 0
  Clean t = (f : Term) (w : F f) → Occurs (fresh f w).kind (fresh f w).identity t → ⊥

  held_clean : (h : Term) → H h → Clean h
  held_clean h x f w o =
      let n = derives_names G (fresh f w).kind (fresh f w).identity h (r.sound h x) o in (fresh f w).unused n.0 n.1 n.2

  clean_held : (t : Term) → Clean t → With H t → H t
  clean_held t c (inl h) = h
  clean_held t c (inr w) = absurd (c t w (fresh_occurs G t (fresh t w)))

  -- fresh names are of no use for a term that contains none
  clean_composable : (t : Term) → Clean t → ComposableFrom (With H) t → ComposableFrom H t
  clean_composable (name k i) c m = clean_held (name k i) c m
  clean_composable (built f a b) c (inl h) = inl (clean_held (built f a b) c h)
  clean_composable (built f a b) c (inr m) =
      inr (clean_composable a (λ g w o. c g w (inl o)) m.0, clean_composable b (λ g w o. c g w (inr o)) m.1)
  clean_composable (mate k) c m = clean_held (mate k) c m

  more : (t : Term) → ComposableFrom H t → ComposableFrom (With H) t
  more = composable_map H (With H) (λ t h. inl h)

  covers : (t : Term) → With G t → ComposableFrom (With H) t
  covers t (inl g) = more t (r.covers t g)
  covers t (inr w) = held_composable (With H) t (inr w)

  sound : (t : Term) → With H t → DerivesFrom (With G) t
  sound t (inl h) = derives_grow G (With G) (λ s g. inl g) t (r.sound t h)
  sound t (inr w) = derives_given (With G) t (inr w)

  lefts : (a b : Term) → With H (built pair a b) → ComposableFrom (With H) a
  lefts a b (inl h) = more a (r.saturated.lefts a b h)
  lefts a b (inr w) = absurd (fresh_unbuilt G pair a b (fresh (built pair a b) w))

  rights : (a b : Term) → With H (built pair a b) → ComposableFrom (With H) b
  rights a b (inl h) = more b (r.saturated.rights a b h)
  rights a b (inr w) = absurd (fresh_unbuilt G pair a b (fresh (built pair a b) w))

  contents : (c k : Term) → With H (built sealed c k) → ComposableFrom (With H) (opener k) → ComposableFrom (With H) c
  contents c k (inr w) o = absurd (fresh_unbuilt G sealed c k (fresh (built sealed c k) w))
  contents c k (inl h) o = more c (r.saturated.contents c k h (clean_composable (opener k) clean o))
    where
      clean : Clean (opener k)
      clean f w x = held_clean (built sealed c k) h f w (inr (opener_names (fresh f w).kind (fresh f w).identity k x))

  -- with the fresh names the held terms still stand for the givens
  pub fresh_represents : Represents (λ t. H t ⊎ F t) (λ t. G t ⊎ F t)
  fresh_represents = record { covers = covers; sound = sound; saturated = record { lefts = lefts; rights = rights; contents = contents } }

pub fresh_names_keep_equivalence_lem : FreshNamesKeepEquivalence
fresh_names_keep_equivalence_lem givens held fresh covers sound saturated new = represents_equivalent (among (held ++ fresh)) (among (givens ++ fresh)) after
  where
    joined : (xs : List Term) (t : Term) → (In t xs ⊎ In t fresh) ↔ In t (xs ++ fresh)
    joined xs t = (in_both t xs fresh, in_either t xs fresh)

    before : Represents (among held) (among givens)
    before = record { covers = covers; sound = sound; saturated = saturated }

    after : Represents (among (held ++ fresh)) (among (givens ++ fresh))
    after =
        represents_same (λ t. In t held ⊎ In t fresh) (among (held ++ fresh)) (λ t. In t givens ⊎ In t fresh) (among (givens ++ fresh))
        (joined held) (joined givens) (fresh_represents (among givens) (among held) (among fresh) before new)
