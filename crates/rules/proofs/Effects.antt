-- What initial knowledge and a step write fits, makes what was given composable, and ends saturated.
use Rattle.std.proofs.Common.{◌≡◌, ℕ, Bool, true, false, cond, ◌⊎◌, List, [], ◌∷◌, length, Some, None, Option, sym, refl, ◌∙◌, subst, inl, inr, arith}
use Rattle.deduction.specs.Term.{Kind, party, number, shared, public, table, function, Term, name, built, mate, In, among}
use Rattle.deduction.specs.Compose.{Composable, Saturated}
use Rattle.deduction.proofs.Compose.{held_composable}
use Rattle.rules.specs.Script.{Op, GIVEN, FRESH, FROM, TO, RECV, MATE, Script, line, ◌then◌, held}
use Rattle.rules.specs.Compose.{Composed, compose, composes}
use Rattle.rules.specs.Saturate.{saturate}
use Rattle.rules.specs.Walk.{walked, walk}
use Rattle.rules.specs.Effects.{knows, fresh_mate, freshen, freshens, heard_from, received, overhears, overheard}
use Rattle.rules.specs.Grows.{Names, Grows, stays, adds, gives, mates, Fits, bringing, Closed, FreshTerm, IsName, Once, Unheld}
use Rattle.rules.proofs.Find.{holds_last, held_append, held_last, held_then}
use Rattle.rules.proofs.Grows.{grows_join, grows_one, grows_held, grows_composable, grows_within}
use Rattle.rules.proofs.Saturate.{composes_true, composes_false, saturate_grows, saturate_ends}
use Rattle.rules.proofs.Walk.{Brought, walked_right, walk_right}

module _ (P : Term → Type 0) (c : Closed P) (G : Op → Term → Type 0) where
  saturate_right : (s : Script) → ((u : Term) → In u (held s) → P u) → (t : Term) → Composable (held s) t → Brought P G s t (saturate s)
  saturate_right s all t m = let g = saturate_grows P c G s all in record { grows = g; made = grows_composable (Fits P G) g t m }

  -- a term held from now on
  held_right : (s : Script) (op : Op) (t : Term) → P t → Names op t → G op t → composes s t ≡ false → Brought P G s t (s then line op (Some t))
  held_right s op t p n g e =
      record {
        grows = grows_one (Fits P G) (bringing (gives n g) (λ i. composes_false s t e (held_composable (among (held s)) t i)) p);
        made = held_composable (among (held (s then line op (Some t)))) t (held_last s op t);
      }

  -- initial knowledge
  pub knows_right : (s : Script) (t : Term) → ((u : Term) → In u (held s) → P u) → P t → G (GIVEN t) t → Brought P G s t (knows s t)
  knows_right s t all p g = go (composes s t) refl
    where
      go : (x : Bool) → composes s t ≡ x → Brought P G s t (cond x s (saturate (s then line (GIVEN t) (Some t))))
      go true e = record { grows = stays; made = composes_true s t e }
      go false e =
          let h = held_right s (GIVEN t) t p refl g e in
          let w = saturate_right (s then line (GIVEN t) (Some t)) (grows_within P G h.grows all) t h.made in
          record { grows = grows_join (Fits P G) h.grows w.grows; made = w.made }

  -- the sender's name
  heard_right : (s : Script) (who : Term) → P who → G (FROM who) who → Brought P G s who (heard_from s who (compose (s then line (FROM who) None) who))
  heard_right s who p g =
      go (compose (s then line (FROM who) None) who)
      (walked_right P c G s (FROM who) who (gives refl g) p (λ x. x) stays (compose (s then line (FROM who) None) who) refl)
    where
      go : (o : Option Composed) → Brought P G s who (walked s (FROM who) who (λ x. x) o) → Brought P G s who (heard_from s who o)
      go None w = w
      go (Some x) w = w

  -- a receiver
  pub record Received (s : Script) (who m : Term) (s' : Script) : Type 0 where
    pub grows : Grows (Fits P G) s s'
    pub who_made : Composable (held s') who
    pub message_made : Composable (held s') m
    pub saturated : Saturated (held s')

  pub received_right : (s : Script) (who m : Term) → ((u : Term) → In u (held s) → P u) → P who → P m → G (FROM who) who → G (RECV m) m
      → Received s who m (received s who m)
  received_right s who m all pw pm gw gm =
      let s1 : Script = heard_from s who (compose (s then line (FROM who) None) who) in
      let h = heard_right s who pw gw in
      let w = walk_right P c G m s1 (RECV m) (gives refl gm) pm in
      let a = grows_join (Fits P G) h.grows w.grows in
      let z = saturate_grows P c G (walk s1 (RECV m) m) (grows_within P G a all) in
      record {
        grows = grows_join (Fits P G) a z;
        who_made = grows_composable (Fits P G) z who (grows_composable (Fits P G) w.grows who h.made);
        message_made = grows_composable (Fits P G) z m w.made;
        saturated = saturate_ends (walk s1 (RECV m) m);
      }

  -- the listener
  overhears_right : (s : Script) (op : Op) (t : Term) → P t → Names op t → G op t → Brought P G s t (overhears s op t)
  overhears_right s op t p n g = go (composes s t) refl
    where
      go : (x : Bool) → composes s t ≡ x → Brought P G s t (cond x s (s then line op (Some t)))
      go true e = record { grows = stays; made = composes_true s t e }
      go false e = held_right s op t p n g e

  pub record Overheard (s : Script) (from to m : Term) (s' : Script) : Type 0 where
    pub grows : Grows (Fits P G) s s'
    pub from_made : Composable (held s') from
    pub to_made : Composable (held s') to
    pub message_made : Composable (held s') m
    pub saturated : Saturated (held s')

  pub overheard_right : (s : Script) (from to m : Term) → ((u : Term) → In u (held s) → P u) → P from → P to → P m
      → G (FROM from) from → G (TO to) to → G (RECV m) m → Overheard s from to m (overheard s from to m)
  overheard_right s from to m all pf pt pm gf gt gm =
      let s1 : Script = overhears s (FROM from) from in
      let s2 : Script = overhears s1 (TO to) to in
      let s3 : Script = overhears s2 (RECV m) m in
      let h1 = overhears_right s (FROM from) from pf refl gf in
      let h2 = overhears_right s1 (TO to) to pt refl gt in
      let h3 = overhears_right s2 (RECV m) m pm refl gm in
      let a = grows_join (Fits P G) (grows_join (Fits P G) h1.grows h2.grows) h3.grows in
      let z = saturate_grows P c G s3 (grows_within P G a all) in
      record {
        grows = grows_join (Fits P G) a z;
        from_made =
            grows_composable (Fits P G) z from (grows_composable (Fits P G) h3.grows from (grows_composable (Fits P G) h2.grows from h1.made));
        to_made = grows_composable (Fits P G) z to (grows_composable (Fits P G) h3.grows to h2.made);
        message_made = grows_composable (Fits P G) z m h3.made;
        saturated = saturate_ends s3;
      }

-- initial knowledge ends saturated
pub knows_saturated : (s : Script) (t : Term) → Saturated (held s) → Saturated (held (knows s t))
knows_saturated s t y = go (composes s t)
  where
    go : (x : Bool) → Saturated (held (cond x s (saturate (s then line (GIVEN t) (Some t)))))
    go true = y
    go false = saturate_ends (s then line (GIVEN t) (Some t))

-- fresh names: new names of which no two are equal, and the mates of the public keys among them

module _ (P : Term → Type 0) (G : Op → Term → Type 0) where
  -- what freshens asks for: names only, each allowed, with its mate if it is a public key
  pub record Freshening (ts : List Term) : Type 0 where
    pub are_names : (t : Term) → In t ts → IsName t
    pub once : Once ts
    pub within : (u : Term) → FreshTerm ts u → P u
    pub fresh : (t : Term) → In t ts → G (FRESH t) t
    pub mated : (n i : ℕ) → In (name public i) ts → G (MATE n) (mate (name public i))

  rest_fresh : (t : Term) (ts : List Term) (u : Term) → FreshTerm ts u → FreshTerm (t ∷ ts) u
  rest_fresh t ts u (inl h) = inl (inr h)
  rest_fresh t ts u (inr w) = inr (w.0, w.1, inr w.2)

  freshening_rest : (t : Term) (ts : List Term) → Freshening (t ∷ ts) → Freshening ts
  freshening_rest t ts f =
      record {
        are_names = λ u h. f.are_names u (inr h);
        once = f.once.1;
        within = λ u h. f.within u (rest_fresh t ts u h);
        fresh = λ u h. f.fresh u (inr h);
        mated = λ n i h. f.mated n i (inr h);
      }

  -- one line that brings a fresh name
  one_right : (s : Script) (t : Term) (ts : List Term) → Freshening (t ∷ ts) → Unheld s (t ∷ ts) → Grows (Fits P G) s (s then line (FRESH t) (Some t))
  one_right s t ts f un = grows_one (Fits P G) (bringing (gives refl (f.fresh t (inl refl))) (un t (inl (inl refl))) (f.within t (inl (inl refl))))

  freshen_right : (s : Script) (t : Term) (ts : List Term) → Freshening (t ∷ ts) → Unheld s (t ∷ ts) → Grows (Fits P G) s (freshen s t)
  freshen_right s (name party i) ts f un = one_right s (name party i) ts f un
  freshen_right s (name number i) ts f un = one_right s (name number i) ts f un
  freshen_right s (name shared i) ts f un = one_right s (name shared i) ts f un
  freshen_right s (name table i) ts f un = one_right s (name table i) ts f un
  freshen_right s (name function i) ts f un = one_right s (name function i) ts f un
  freshen_right s (built g a b) ts f un = absurd (f.are_names (built g a b) (inl refl))
  freshen_right s (mate k) ts f un = absurd (f.are_names (mate k) (inl refl))
  freshen_right s (name public i) ts f un =
      let t : Term = name public i in
      let mine : FreshTerm (t ∷ ts) (mate t) = inr (i, refl, inl refl) in
      adds (one_right s t ts f un) (bringing (mates (holds_last s (FRESH t) t) (f.mated (length s) i (inl refl))) new (f.within (mate t) mine))
    where
      new : In (mate (name public i)) (held (s then line (FRESH (name public i)) (Some (name public i)))) → ⊥
      new h = go (held_then s (line (FRESH (name public i)) (Some (name public i))) (mate (name public i)) h)
        where
          go : In (mate (name public i)) (held s) ⊎ (Some (name public i) ≡ Some (mate (name public i))) → ⊥
          go (inl x) = un (mate (name public i)) (inr (i, refl, inl refl)) x
          go (inr e) = let z : ◌≡◌ {A = ℕ} 0 1 = cc in omega arith

-- a fresh name is held, and the mate of a fresh public key
freshen_made : (s : Script) (t : Term) → In t (held (freshen s t))
freshen_made s (name party i) = held_last s (FRESH (name party i)) (name party i)
freshen_made s (name number i) = held_last s (FRESH (name number i)) (name number i)
freshen_made s (name shared i) = held_last s (FRESH (name shared i)) (name shared i)
freshen_made s (name public i) =
    held_append (s then line (FRESH (name public i)) (Some (name public i))) (line (MATE (length s)) (Some (mate (name public i))) ∷ []) (name public i)
    (held_last s (FRESH (name public i)) (name public i))
freshen_made s (name table i) = held_last s (FRESH (name table i)) (name table i)
freshen_made s (name function i) = held_last s (FRESH (name function i)) (name function i)
freshen_made s (built f a b) = held_last s (FRESH (built f a b)) (built f a b)
freshen_made s (mate k) = held_last s (FRESH (mate k)) (mate k)

mate_made : (s : Script) (i : ℕ) → In (mate (name public i)) (held (freshen s (name public i)))
mate_made s i = held_last (s then line (FRESH (name public i)) (Some (name public i))) (MATE (length s)) (mate (name public i))

-- after one fresh name the held terms are the earlier ones, it, and its mate
freshen_held : (s : Script) (t : Term) → IsName t → (u : Term) → In u (held (freshen s t))
    → In u (held s) ⊎ ((u ≡ t) ⊎ ((i : ℕ) × (t ≡ name public i) × (u ≡ mate t)))
freshen_held s (name k i) y u = go k
  where
    one : (j : Kind) → In u (held (s then line (FRESH (name j i)) (Some (name j i))))
        → In u (held s) ⊎ ((u ≡ name j i) ⊎ ((x : ℕ) × (name j i ≡ name public x) × (u ≡ mate (name j i))))
    one j h = split (held_then s (line (FRESH (name j i)) (Some (name j i))) u h)
      where
        split : In u (held s) ⊎ (Some (name j i) ≡ Some u)
            → In u (held s) ⊎ ((u ≡ name j i) ⊎ ((x : ℕ) × (name j i ≡ name public x) × (u ≡ mate (name j i))))
        split (inl x) = inl x
        split (inr e) = inr (inl (cc))

    go : (j : Kind) → In u (held (fresh_mate s (name j i) j))
        → In u (held s) ⊎ ((u ≡ name j i) ⊎ ((x : ℕ) × (name j i ≡ name public x) × (u ≡ mate (name j i))))
    go party h = one party h
    go number h = one number h
    go shared h = one shared h
    go table h = one table h
    go function h = one function h
    go public h =
        split (held_then (s then line (FRESH (name public i)) (Some (name public i))) (line (MATE (length s)) (Some (mate (name public i)))) u h)
      where
        split : In u (held (s then line (FRESH (name public i)) (Some (name public i)))) ⊎ (Some (mate (name public i)) ≡ Some u)
            → In u (held s) ⊎ ((u ≡ name public i) ⊎ ((x : ℕ) × (name public i ≡ name public x) × (u ≡ mate (name public i))))
        split (inl x) = one public x
        split (inr e) = inr (inr (i, refl, (cc)))
freshen_held s (built f a b) y u = absurd y
freshen_held s (mate k) y u = absurd y

module _ (P : Term → Type 0) (G : Op → Term → Type 0) where
  still_unheld : (s : Script) (t : Term) (ts : List Term) → Freshening P G (t ∷ ts) → Unheld s (t ∷ ts) → Unheld (freshen s t) ts
  still_unheld s t ts f un u w h = go (freshen_held s t (f.are_names t (inl refl)) u h) w
    where
      go : In u (held s) ⊎ ((u ≡ t) ⊎ ((i : ℕ) × (t ≡ name public i) × (u ≡ mate t))) → FreshTerm ts u → ⊥
      go (inl x) v = un u (rest_fresh P G t ts u v) x
      go (inr (inl e)) (inl x) = f.once.0 (subst (λ y. In y ts) e x)
      go (inr (inl e)) (inr v) = let n = f.are_names t (inl refl) in subst IsName (sym e ∙ v.1) n
      go (inr (inr e)) (inl x) = subst IsName e.2 (f.are_names u (inr x))
      go (inr (inr e)) (inr v) =
          let e2 = e.2 in let v1 = v.1 in
          let q : name public v.0 ≡ t = cc in
          f.once.0 (subst (λ y. In y ts) q v.2)

  pub freshens_grows : (ts : List Term) (s : Script) → Freshening P G ts → Unheld s ts → Grows (Fits P G) s (freshens s ts)
  freshens_grows [] s f un = stays
  freshens_grows (t ∷ ts) s f un =
      grows_join (Fits P G) (freshen_right P G s t ts f un) (freshens_grows ts (freshen s t) (freshening_rest P G t ts f) (still_unheld s t ts f un))

  pub freshens_made : (ts : List Term) (s : Script) → Freshening P G ts → Unheld s ts → (u : Term) → FreshTerm ts u → In u (held (freshens s ts))
  freshens_made [] s f un u (inl h) = absurd h
  freshens_made [] s f un u (inr w) = absurd w.2
  freshens_made (t ∷ ts) s f un u w = go (freshens_made ts (freshen s t) f' un' u) w
    where
      f' : Freshening P G ts
      f' = freshening_rest P G t ts f

      un' : Unheld (freshen s t) ts
      un' = still_unheld s t ts f un

      go : (FreshTerm ts u → In u (held (freshens (freshen s t) ts))) → FreshTerm (t ∷ ts) u → In u (held (freshens (freshen s t) ts))
      go rest (inl (inl e)) =
          grows_held (Fits P G) (freshens_grows ts (freshen s t) f' un') u (subst (λ y. In y (held (freshen s t))) e (freshen_made s t))
      go rest (inl (inr h)) = rest (inl h)
      go rest (inr v) = pick v.2
        where
          pick : In (name public v.0) (t ∷ ts) → In u (held (freshens (freshen s t) ts))
          pick (inr h) = rest (inr (v.0, v.1, h))
          pick (inl e) =
              grows_held (Fits P G) (freshens_grows ts (freshen s t) f' un') u
              (subst (λ y. In y (held (freshen s t))) (sym v.1) (subst (λ y. In (mate (name public v.0)) (held (freshen s y))) (sym e) (mate_made s v.0)))
