-- One pass from the highest number down marks what stands within the marked terms.
use Rattle.std.proofs.Common.{◌≡◌, ℕ, ◌+◌, ◌<◌, ◌≤◌, Bool, true, false, ◌||◌, eqb, ◌⊎◌, List, length, get_or, sym, refl, ap, ◌∙◌, subst, inl, inr, arith}
use Rattle.std.proofs.lemmas.List.{get_or_past}
use Rattle.std.proofs.lemmas.Bool.{both_ways, cases_eq, cases_lt, eqb-true, eq-eqb, or_cases, or_from, or_left, or_right}
use Rattle.terms.specs.declared.node.TermNode.{TermNode}
use Rattle.terms.specs.Node.{node_at}
use Rattle.terms.specs.Tree.{tree, Orderly}
use Rattle.terms.specs.Held.{Within}
use Rattle.freshness.specs.Marks.{Marked}
use Rattle.freshness.specs.Occurring.{is_part, StandsIn, Occurring}
use Rattle.freshness.proofs.Standing.{within_self, within_trans, part_within, whole_of}

-- the numbers from n on are done, and their parts are marked
pub record Passed (ts : List TermNode) (marks r : List Bool) (n : ℕ) : Type 0 where
  pub sound : (i : ℕ) → i < length ts → get_or r i false ≡ true → StandsIn ts marks i
  pub complete : (i : ℕ) → n ≤ i → i < length ts → StandsIn ts marks i → get_or r i false ≡ true
  pub closed : (p j : ℕ) → n ≤ p → p < length ts → get_or r p false ≡ true → is_part j (node_at ts p) ≡ true → get_or r j false ≡ true
  pub past : (i : ℕ) → length ts ≤ i → get_or r i false ≡ false
  pub size : length r ≡ 512

module _ (ts : List TermNode) (marks : List Bool) where
  -- before the pass
  pub none_passed : (r : List Bool) → ((i : ℕ) → get_or r i false ≡ false) → length r ≡ 512 → Passed ts marks r (length ts)
  none_passed r none size = record {
    sound = λ i l e. absurd (both_ways (get_or r i false) (none i) e);
    complete = λ i h l s. absurd (omega arith);
    closed = λ p j h l e q. absurd (omega arith);
    past = λ i l. none i;
    size = size;
  }

  module _ (ok : Orderly ts) (few : length ts ≤ 512) (r : List Bool) (n j : ℕ) (next : n ≡ j + 1) (lj : j < length ts) (done : Passed ts marks r n) where
    -- what stands within a marked term is marked itself, or has been reached
    reached : StandsIn ts marks j → (get_or marks j false ≡ true) ⊎ (get_or r j false ≡ true)
    reached (t, lt, m, w) = go (whole_of ts ok t j lt lj w)
      where
        go : (j ≡ t) ⊎ ((p : ℕ) × (p < length ts) × (is_part j (node_at ts p) ≡ true) × Within (tree ts p) (tree ts t)) → (get_or marks j false ≡ true) ⊎ (get_or r j false ≡ true)
        go (inl e) = inl (ap (λ i. get_or marks i false) e ∙ m)
        go (inr (p, lp, q, v)) =
            let above : j < p = (part_within ts ok p j lp q).0 in
            inr (done.closed p j (omega arith) lp (done.complete p (omega arith) lp (t, lt, m, v)) q)

    -- a number that is neither marked nor reached is passed over
    pub passed_over : get_or marks j false ≡ false → get_or r j false ≡ false → Passed ts marks r j
    passed_over unmarked unreached = record {
      sound = done.sound;
      complete = λ i h l s. complete i h l s (cases_eq i j);
      closed = λ p i h l e q. closed p i h l e q (cases_eq p j);
      past = done.past;
      size = done.size;
    }
      where
        never : (get_or marks j false ≡ true) ⊎ (get_or r j false ≡ true) → ⊥
        never (inl e) = both_ways (get_or marks j false) unmarked e
        never (inr e) = both_ways (get_or r j false) unreached e

        complete : (i : ℕ) → j ≤ i → i < length ts → StandsIn ts marks i → (i ≡ j) ⊎ (i ≡ j → ⊥) → get_or r i false ≡ true
        complete i h l s (inl e) = absurd (never (reached (subst (StandsIn ts marks) e s)))
        complete i h l s (inr ne) = done.complete i (omega arith) l s

        closed : (p i : ℕ) → j ≤ p → p < length ts → get_or r p false ≡ true → is_part i (node_at ts p) ≡ true → (p ≡ j) ⊎ (p ≡ j → ⊥) → get_or r i false ≡ true
        closed p i h l e q (inl s) = absurd (both_ways (get_or r j false) unreached (sym (ap (λ m. get_or r m false) s) ∙ e))
        closed p i h l e q (inr ne) = done.closed p i (omega arith) l e q

    -- the number itself and its parts
    abbrev new : ℕ → Bool
    new t = eqb j t || is_part t (node_at ts j)

    -- a number that is marked or reached is marked with its parts
    pub passed_on : (get_or marks j false ≡ true) ⊎ (get_or r j false ≡ true)
        → (r' : List Bool) → Marked (λ t. eqb j t || is_part t (node_at ts j)) r r' → Passed ts marks r' j
    passed_on met r' marked = record {
      sound = λ i l e. sound i l (or_cases (get_or r i false) (new i) (sym (at i (omega arith)) ∙ e));
      complete = λ i h l s. complete i h l s (cases_eq i j);
      closed = λ p i h l e q. closed p i h l e q (cases_eq p j);
      past = λ i h. past i h (cases_lt i 512);
      size = marked.size ∙ done.size;
    }
      where
        at : (i : ℕ) → i < 512 → get_or r' i false ≡ (get_or r i false || new i)
        at i l = marked.marks i l

        keeps : (i : ℕ) → i < 512 → get_or r i false ≡ true → get_or r' i false ≡ true
        keeps i l e = at i l ∙ or_left (get_or r i false) (new i) e

        here : get_or r' j false ≡ true
        here = at j (omega arith) ∙ or_right (get_or r j false) (new j) (or_left (eqb j j) (is_part j (node_at ts j)) (eq-eqb j j refl))

        stands : (get_or marks j false ≡ true) ⊎ (get_or r j false ≡ true) → StandsIn ts marks j
        stands (inl e) = (j, lj, e, within_self (tree ts j))
        stands (inr e) = done.sound j lj e

        sound_new : (i : ℕ) → (eqb j i ≡ true) ⊎ (is_part i (node_at ts j) ≡ true) → StandsIn ts marks j → StandsIn ts marks i
        sound_new i (inl e) s = subst (StandsIn ts marks) (eqb-true j i e) s
        sound_new i (inr e) (t, lt, m, w) = (t, lt, m, within_trans (tree ts i) (tree ts j) (tree ts t) (part_within ts ok j i lj e).1 w)

        sound : (i : ℕ) → i < length ts → (get_or r i false ≡ true) ⊎ (new i ≡ true) → StandsIn ts marks i
        sound i l (inl e) = done.sound i l e
        sound i l (inr e) = sound_new i (or_cases (eqb j i) (is_part i (node_at ts j)) e) (stands met)

        complete : (i : ℕ) → j ≤ i → i < length ts → StandsIn ts marks i → (i ≡ j) ⊎ (i ≡ j → ⊥) → get_or r' i false ≡ true
        complete i h l s (inl e) = ap (λ m. get_or r' m false) e ∙ here
        complete i h l s (inr ne) = keeps i (omega arith) (done.complete i (omega arith) l s)

        -- a number above j was marked before
        before : (p : ℕ) → p < length ts → j < p → (get_or r p false ≡ true) ⊎ (new p ≡ true) → get_or r p false ≡ true
        before p l above (inl e) = e
        before p l above (inr e) = go (or_cases (eqb j p) (is_part p (node_at ts j)) e)
          where
            go : (eqb j p ≡ true) ⊎ (is_part p (node_at ts j) ≡ true) → get_or r p false ≡ true
            go (inl q) = let s = eqb-true j p q in absurd (omega arith)
            go (inr q) = let s : p < j = (part_within ts ok j p lj q).0 in absurd (omega arith)

        closed : (p i : ℕ) → j ≤ p → p < length ts → get_or r' p false ≡ true → is_part i (node_at ts p) ≡ true → (p ≡ j) ⊎ (p ≡ j → ⊥) → get_or r' i false ≡ true
        closed p i h l e q (inl s) =
            let q' : is_part i (node_at ts j) ≡ true = subst (λ m. is_part i (node_at ts m) ≡ true) s q in
            let low : i < j = (part_within ts ok j i lj q').0 in
            at i (omega arith) ∙ or_right (get_or r i false) (new i) (or_right (eqb j i) (is_part i (node_at ts j)) q')
        closed p i h l e q (inr ne) =
            let low : i < p = (part_within ts ok p i l q).0 in
            let was = before p l (omega arith) (or_cases (get_or r p false) (new p) (sym (at p (omega arith)) ∙ e)) in
            keeps i (omega arith) (done.closed p i (omega arith) l was q)

        -- nothing past the last number is a part
        not_new : (i : ℕ) → length ts ≤ i → (b : Bool) → new i ≡ b → b ≡ false
        not_new i h false e = refl
        not_new i h true e = absurd (go (or_cases (eqb j i) (is_part i (node_at ts j)) e))
          where
            go : (eqb j i ≡ true) ⊎ (is_part i (node_at ts j) ≡ true) → ⊥
            go (inl q) = let s = eqb-true j i q in omega arith
            go (inr q) = let s : i < j = (part_within ts ok j i lj q).0 in omega arith

        past : (i : ℕ) → length ts ≤ i → (i < 512) ⊎ (512 ≤ i) → get_or r' i false ≡ false
        past i h (inl l) = at i l ∙ or_from (get_or r i false) (new i) (done.past i h) (not_new i h (new i) refl)
        past i h (inr l) = get_or_past r' i false (omega (arith, marked.size, done.size))
