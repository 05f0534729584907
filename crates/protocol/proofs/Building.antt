-- Building a term, as the rules have it.
use Rattle.std.proofs.Common.{◌≡◌, ℕ, zero, suc, ◌+◌, ◌<◌, ◌≤◌, Bool, true, false, eqb, ltb, ◌⊎◌, List, [], ◌∷◌, length, Some, None, Ok, Err, Decides, Option, Result, sym, refl, ap, ◌∙◌, subst, inl, inr, arith, le-ltb, lt-ltb}
use Rattle.std.proofs.lemmas.Bool.{cases_lt}
use Rattle.std.proofs.lemmas.List.{length_push}
use Rattle.deduction.specs.Term.{party, number, shared, public, table, function, Form as TreeForm, Term, name, built, mate, mate_of, Key, Asymmetric}
use Rattle.deduction.specs.Decide.{is_key, parts_fit}
use Rattle.deduction.proofs.Decide.{key_decides, fit_decides}
use Rattle.terms.specs.declared.node.Kind.TheVariants.{Party, Number, Shared, Public, Table, Function}
use Rattle.terms.specs.declared.node.Form.{Form}
use Rattle.terms.specs.declared.node.Form.TheVariants.{Pair, Sealed, Digest, Entry}
use Rattle.terms.specs.declared.node.TermNode.{TermNode}
use Rattle.terms.specs.declared.node.TermNode.TheVariants.{Name, Built, Mate}
use Rattle.terms.specs.declared.node.MateCase.{MateCase}
use Rattle.terms.specs.declared.node.MateCase.TheVariants.{Itself, Inside, Apart}
use Rattle.terms.specs.declared.node.TermError.{TermError}
use Rattle.terms.specs.declared.node.TermError.TheVariants.{Unknown as NoTerm, WrongKind as WrongPart, Full}
use Rattle.terms.specs.declared.table.Terms.{Terms}
use Rattle.terms.specs.Node.{node_at, mate_case, is_key as isKeyNode, is_asymmetric}
use Rattle.terms.specs.Tree.{tree, tree_of, Orderly, form_of as formTree}
use Rattle.terms.specs.Listed.{listed, Unchanged, Inserted, Mated}
use Rattle.terms.specs.Outcome.{Known, Proper, Absent, Keeps, Places, Inserts, MatesBy, Stands}
use Rattle.terms.proofs.Trees.{tree_at, record_of}
use Rattle.terms.proofs.Formed.{key_at, asymmetric_at}
use Rattle.terms.proofs.Insert.{known_below}
use Rattle.terms.proofs.Listed.{orderly}
use Rattle.scripts.specs.declared.instruction.Line.{Line}
use Rattle.rules.specs.State.{State, Call as RuleCall, BUILD, Refusal as RuleRefusal, Unknown, WrongKind, NoRoom, Told, formed, mated, outcome, refuses, refused, form_of, place_of, placed, builds, perform}
use Rattle.protocol.specs.declared.step.Step.{Step}
use Rattle.protocol.specs.declared.call.Reply.TheVariants.{Number}
use Rattle.protocol.specs.States.{trees, state_by, scripts_known, steps_known}
use Rattle.protocol.specs.Outcome.{Performed, Unaltered, answer_of, number as numberTold}
use Rattle.std.specs.Prelude.{IsErrAnd}
use Rattle.std.proofs.lemmas.Result.{err_from_is_err_and}
use Rattle.protocol.specs.Adding.{accepted, Adds}
use Rattle.protocol.specs.declared.refusal.Refusal.{Refusal}
use Rattle.protocol.specs.Refusals.{refused_as}
use Rattle.protocol.proofs.Trees.{length_trees, nth_trees, none_trees, place_tree, no_place}
use Rattle.protocol.proofs.Growing.{trees_push, state_more}
use Rattle.protocol.proofs.Performing.{performed_by}

-- a table keeps all its numbers, so it is no shorter
pub keeps_longer : (ts us : List TermNode) → Keeps ts us → length ts ≤ length us
keeps_longer ts us keeps = go (cases_lt (length us) (length ts))
  where
    go : (length us < length ts) ⊎ (length ts ≤ length us) → length ts ≤ length us
    go (inl l) = let h = (keeps (length us) l).0 in absurd (omega arith)
    go (inr l) = l

pub unaltered_accepted : (o : Result ℕ TermError) (t u : Terms 512) → Unchanged o t u → Unaltered (accepted o) t u
unaltered_accepted (Ok n) t u h = tt
unaltered_accepted (Err NoTerm) t u h = h
unaltered_accepted (Err WrongPart) t u h = h
unaltered_accepted (Err Full) t u h = h

-- where a term is placed, by the records of the table
module _ (ts : List TermNode) (ok : Orderly ts) (ps : List (List Line)) (ss : List Step) (c : RuleCall) (x : Term) (told : ℕ → Told) where
  abbrev st : State
  st = state_by ts ps ss

  placed_there : (n : ℕ) → n < length ts → tree ts n ≡ x → placed st c x told (place_of st.terms x) ≡ outcome (told n) st
  placed_there n l e = ap (placed st c x told) (subst (λ y. place_of (trees ts) y ≡ Some n) e (place_tree ts ok n l))

  placed_new : (us : List TermNode) → scripts_known (length ts) ps ≡ true → steps_known (length ts) ss ≡ true → Keeps ts us
      → length us ≡ length ts + 1 → tree us (length ts) ≡ x → ((i : ℕ) → i < length ts → tree ts i ≡ x → ⊥) → length ts < 512
      → placed st c x told (place_of st.terms x) ≡ outcome (told (length ts)) (state_by us ps ss)
  placed_new us kp ks keeps l e none room =
      let t : ltb (length ts) 512 ≡ true = lt-ltb (length ts) 512 room in
      ap (placed st c x told) (no_place ts x none)
      ∙ rw (length_trees ts, t) (ap (outcome (told (length ts))) (sym (state_more ts us ps ss (x ∷ []) keeps (trees_push ts us x keeps l e) kp ks)))

  placed_full : ((i : ℕ) → i < length ts → tree ts i ≡ x → ⊥) → length ts ≡ 512 → placed st c x told (place_of st.terms x) ≡ refuses st c NoRoom
  placed_full none full =
      let t : ltb (length ts) 512 ≡ false = le-ltb (length ts) 512 (omega arith) in
      ap (placed st c x told) (no_place ts x none) ∙ rw (length_trees ts, t) refl

-- no number stands for the tree of a record that is not there
none_stands : (ts : List TermNode) → Orderly ts → (r : TermNode) (x : Term) → tree_of r (tree ts) ≡ x → Known ts r → Absent ts r
    → (i : ℕ) → i < length ts → tree ts i ≡ x → ⊥
none_stands ts ok r x is known new i l e = new i l (record_of ts ok r i (known_below ts r known) l (e ∙ sym is))

not_proved : {P : Type 0} (b : Bool) → Decides b P → (P → ⊥) → b ≡ false
not_proved true d f = absurd (f (d.0 refl))
not_proved false d f = refl

-- what became of a record, as the rules place its tree
module _ (ts us : List TermNode) (ok : Orderly ts) (ps : List (List Line)) (ss : List Step) (kp : scripts_known (length ts) ps ≡ true)
    (ks : steps_known (length ts) ss ≡ true) (c : RuleCall) (x : Term) (told : ℕ → Told) (keeps : Keeps ts us) where
  pub placed_by : (r : TermNode) → tree_of r (tree ts) ≡ x → Known ts r → (n : ℕ) → Places 512 ts r n us → tree us n ≡ x
      → placed (state_by ts ps ss) c x told (place_of (trees ts) x) ≡ outcome (told n) (state_by us ps ss)
  placed_by r is known n (inl w) e =
      placed_there ts ok ps ss c x told n w.0.0 (tree_at ts ok.lower n r w.0.0 w.0.1 ∙ is)
      ∙ ap (λ vs. outcome (told n) (state_by vs ps ss)) (sym w.1)
  placed_by r is known n (inr w) e =
      let l : length us ≡ length ts + 1 = ap length w.3 ∙ length_push ts r in
      let q : tree us (length ts) ≡ x = ap (tree us) (sym w.2) ∙ e in
      placed_new ts ok ps ss c x told us kp ks keeps l q (none_stands ts ok r x is known w.0) w.1
      ∙ ap (λ m. outcome (told m) (state_by us ps ss)) (sym w.2)

-- two-part forms are not the mate
pub no_mate : (f : ℕ) (g : TreeForm) → form_of f ≡ Some g → eqb f 4 ≡ false
no_mate zero g e = refl
no_mate (suc zero) g e = refl
no_mate (suc (suc zero)) g e = refl
no_mate (suc (suc (suc zero))) g e = refl
no_mate (suc (suc (suc (suc f)))) g e = cc

module _ (t u : Terms 512) (f a b : ℕ) where
  abbrev ts : List TermNode
  ts = listed t

  abbrev us : List TermNode
  us = listed u

  abbrev call : RuleCall
  call = BUILD f a b

  refused_as_before : (ps : List (List Line)) (ss : List Step) (r : RuleRefusal) (e : TermError) → us ≡ ts
      → numberTold (Err (refused_as e)) ≡ answer_of (refused call r)
      → perform (state_by ts ps ss) call ≡ refuses (state_by ts ps ss) call r
      → Performed (state_by ts ps ss) call (numberTold (Err (refused_as e))) (state_by us ps ss)
  refused_as_before ps ss r e same told q =
      performed_by (state_by ts ps ss) call (refused call r) (state_by ts ps ss) (state_by us ps ss) (numberTold (Err (refused_as e))) q told
      (ap (λ vs. state_by vs ps ss) same)

  -- two-part terms
  module _ (g : Form) (is : form_of f ≡ Some (formTree g)) where
    two_parts : (ps : List (List Line)) (ss : List Step) → a < length ts → b < length ts
        → perform (state_by ts ps ss) call ≡ builds (state_by ts ps ss) call (formTree g) a b (tree ts a) (tree ts b)
    two_parts ps ss la lb = rw (no_mate f (formTree g) is, is, nth_trees ts a la, nth_trees ts b lb) refl

    fitting : (ps : List (List Line)) (ss : List Step) → Known ts (Built g a b) → Proper ts (Built g a b)
        → perform (state_by ts ps ss) call
        ≡ placed (state_by ts ps ss) call (built (formTree g) (tree ts a) (tree ts b)) (formed (formTree g) a b)
        (place_of (trees ts) (built (formTree g) (tree ts a) (tree ts b)))
    fitting ps ss k p =
        two_parts ps ss k.0 k.1 ∙ rw ((fit_decides (formTree g) (tree ts a) (tree ts b)).1 p) refl

    unknown_part : (ps : List (List Line)) (ss : List Step) → (Known ts (Built g a b) → ⊥)
        → perform (state_by ts ps ss) call ≡ refuses (state_by ts ps ss) call Unknown
    unknown_part ps ss k = go (cases_lt a (length ts)) (cases_lt b (length ts))
      where
        go : (a < length ts) ⊎ (length ts ≤ a) → (b < length ts) ⊎ (length ts ≤ b)
            → perform (state_by ts ps ss) call ≡ refuses (state_by ts ps ss) call Unknown
        go (inr la) lb = rw (no_mate f (formTree g) is, is, none_trees ts a la) refl
        go (inl la) (inr lb) = rw (no_mate f (formTree g) is, is, nth_trees ts a la, none_trees ts b lb) refl
        go (inl la) (inl lb) = absurd (k (la, lb))

    built_performed : (o : Result ℕ TermError) → Inserted t (Built g a b) o u → (ps : List (List Line)) (ss : List Step)
        → scripts_known (length ts) ps ≡ true → steps_known (length ts) ss ≡ true
        → Performed (state_by ts ps ss) call (numberTold (accepted o)) (state_by us ps ss)
    built_performed (Ok n) i ps ss kp ks =
        let w = i.outcome in
        let x : Term = built (formTree g) (tree ts a) (tree ts b) in
        performed_by (state_by ts ps ss) call (formed (formTree g) a b n) (state_by us ps ss) (state_by us ps ss) (Ok (Number n))
        (fitting ps ss w.0 w.1
        ∙ placed_by ts us (orderly t) ps ss kp ks call x (formed (formTree g) a b) i.keeps (Built g a b) refl w.0 n w.2 i.stands.1)
        refl refl
    built_performed (Err NoTerm) i ps ss kp ks =
        refused_as_before ps ss Unknown NoTerm i.outcome.1 refl (unknown_part ps ss i.outcome.0)
    built_performed (Err WrongPart) i ps ss kp ks =
        let w = i.outcome.0 in
        let e = not_proved (parts_fit (formTree g) (tree ts a) (tree ts b)) (fit_decides (formTree g) (tree ts a) (tree ts b)) w.1 in
        refused_as_before ps ss WrongKind WrongPart i.outcome.1 refl (two_parts ps ss w.0.0 w.0.1 ∙ rw e refl)
    built_performed (Err Full) i ps ss kp ks =
        let w = i.outcome.0 in
        let x : Term = built (formTree g) (tree ts a) (tree ts b) in
        refused_as_before ps ss NoRoom Full i.outcome.1 refl
        (fitting ps ss w.0 w.1
        ∙ placed_full ts (orderly t) ps ss call x (formed (formTree g) a b) (none_stands ts (orderly t) (Built g a b) x refl w.0 w.2) w.3)

    pub form_adds : (o : Result ℕ TermError) → Inserted t (Built g a b) o u → Adds t call (accepted o) u
    form_adds o i = record {
      performed = built_performed o i;
      longer = keeps_longer ts us i.keeps;
      unaltered = unaltered_accepted o t u i.unchanged;
    }

-- keys by their mates

asymmetric_mate : (x : Term) → Asymmetric x → mate_of x ≡ mate x
asymmetric_mate (name party i) e = refl
asymmetric_mate (name number i) e = refl
asymmetric_mate (name shared i) e = cc
asymmetric_mate (name public i) e = refl
asymmetric_mate (name table i) e = refl
asymmetric_mate (name function i) e = refl
asymmetric_mate (built f a b) e = refl
asymmetric_mate (mate k) e = absurd e

asymmetric_key : (x : Term) → Asymmetric x → Key x
asymmetric_key (name k i) e = subst (λ j. Key (name j i)) (sym e) tt
asymmetric_key (built f a b) e = e
asymmetric_key (mate k) e = absurd e

mate_key : (r : TermNode) (k : MateCase) → mate_case r ≡ Some k → isKeyNode r ≡ true
mate_key (Name Party i) k e = cc
mate_key (Name Number i) k e = cc
mate_key (Name Shared i) k e = refl
mate_key (Name Public i) k e = refl
mate_key (Name Table i) k e = cc
mate_key (Name Function i) k e = cc
mate_key (Built Pair a b) k e = cc
mate_key (Built Sealed a b) k e = cc
mate_key (Built Digest a b) k e = cc
mate_key (Built Entry a b) k e = refl
mate_key (Mate a) k e = refl

apart_asymmetric : (r : TermNode) → mate_case r ≡ Some Apart → is_asymmetric r ≡ true
apart_asymmetric (Name Party i) e = cc
apart_asymmetric (Name Number i) e = cc
apart_asymmetric (Name Shared i) e = cc
apart_asymmetric (Name Public i) e = refl
apart_asymmetric (Name Table i) e = cc
apart_asymmetric (Name Function i) e = cc
apart_asymmetric (Built Pair a b) e = cc
apart_asymmetric (Built Sealed a b) e = cc
apart_asymmetric (Built Digest a b) e = cc
apart_asymmetric (Built Entry a b) e = refl
apart_asymmetric (Mate a) e = cc

-- mates
module _ (t u : Terms 512) (a b : ℕ) where
  abbrev ks : List TermNode
  ks = listed t

  abbrev ms : List TermNode
  ms = listed u

  abbrev mating : RuleCall
  mating = BUILD 4 a b

  keyed : (ps : List (List Line)) (ss : List Step) → a < length ks → Key (tree ks a)
      → perform (state_by ks ps ss) mating
      ≡ placed (state_by ks ps ss) mating (mate_of (tree ks a)) (mated a) (place_of (trees ks) (mate_of (tree ks a)))
  keyed ps ss l k = rw (nth_trees ks a l, (key_decides (tree ks a)).1 k) refl

  -- the mate is there already
  found_mate : (ps : List (List Line)) (ss : List Step) (n : ℕ) → a < length ks → Key (tree ks a) → ms ≡ ks → n < length ms → tree ms n ≡ mate_of (tree ks a)
      → Performed (state_by ks ps ss) mating (Ok (Number n)) (state_by ms ps ss)
  found_mate ps ss n l k same ln is =
      let lk : n < length ks = subst (λ vs. n < length vs) same ln in
      let ik : tree ks n ≡ mate_of (tree ks a) = subst (λ vs. tree vs n ≡ mate_of (tree ks a)) same is in
      performed_by (state_by ks ps ss) mating (mated a n) (state_by ks ps ss) (state_by ms ps ss) (Ok (Number n))
      (keyed ps ss l k ∙ placed_there ks (orderly t) ps ss mating (mate_of (tree ks a)) (mated a) n lk ik)
      refl (ap (λ vs. state_by vs ps ss) same)

  mate_inserted : (o : Result ℕ TermError) → a < length ks → mate_case (node_at ks a) ≡ Some Apart → Inserts 512 ks (Mate a) o ms
      → Stands ms o (mate_of (tree ks a)) → Keeps ks ms → (ps : List (List Line)) (ss : List Step)
      → scripts_known (length ks) ps ≡ true → steps_known (length ks) ss ≡ true
      → Performed (state_by ks ps ss) mating (numberTold (accepted o)) (state_by ms ps ss)
  mate_inserted (Ok n) l apart w stands keeps ps ss kp kt =
      performed_by (state_by ks ps ss) mating (mated a n) (state_by ms ps ss) (state_by ms ps ss) (Ok (Number n))
      (keyed ps ss l (asymmetric_key (tree ks a) w.1)
      ∙ placed_by ks ms (orderly t) ps ss kp kt mating (mate_of (tree ks a)) (mated a) keeps (Mate a) (sym (asymmetric_mate (tree ks a) w.1)) w.0 n w.2 stands.1)
      refl refl
  mate_inserted (Err NoTerm) l apart w stands keeps ps ss kp kt = absurd (w.0 l)
  mate_inserted (Err WrongPart) l apart w stands keeps ps ss kp kt =
      absurd (w.0.1 ((asymmetric_at ks (orderly t) a l).0 (apart_asymmetric (node_at ks a) apart)))
  mate_inserted (Err Full) l apart w stands keeps ps ss kp kt =
      let f = w.0 in
      let x : Term = mate_of (tree ks a) in
      refused_as_before t u 4 a b ps ss NoRoom Full w.1 refl
      (keyed ps ss l (asymmetric_key (tree ks a) f.1)
      ∙ placed_full ks (orderly t) ps ss mating x (mated a)
      (none_stands ks (orderly t) (Mate a) x (sym (asymmetric_mate (tree ks a) f.1)) f.0 f.2) f.3)

  mate_performed : (o : Result ℕ TermError) → Mated t a o u → (ps : List (List Line)) (ss : List Step)
      → scripts_known (length ks) ps ≡ true → steps_known (length ks) ss ≡ true
      → Performed (state_by ks ps ss) mating (numberTold (accepted o)) (state_by ms ps ss)
  mate_performed o m ps ss kp kt = go (cases_lt a (length ks))
    where
      key_there : a < length ks → (k : MateCase) → mate_case (node_at ks a) ≡ Some k → Key (tree ks a)
      key_there l k e = (key_at ks (orderly t) a l).0 (mate_key (node_at ks a) k e)

      -- a number whose record was there
      answered : (n : ℕ) → o ≡ Ok n → ms ≡ ks → a < length ks → (k : MateCase) → mate_case (node_at ks a) ≡ Some k
          → Performed (state_by ks ps ss) mating (numberTold (accepted o)) (state_by ms ps ss)
      answered n e same l k f =
          let s : Stands ms (Ok n) (mate_of (tree ks a)) = subst (λ p. Stands ms p (mate_of (tree ks a))) e m.stands in
          subst (λ p. Performed (state_by ks ps ss) mating (numberTold (accepted p)) (state_by ms ps ss)) (sym e)
          (found_mate ps ss n l (key_there l k f) same s.0 s.1)

      by : (k : Option MateCase) → a < length ks → mate_case (node_at ks a) ≡ k → MatesBy 512 ks a k o ms
          → Performed (state_by ks ps ss) mating (numberTold (accepted o)) (state_by ms ps ss)
      by None l e w =
          let k : is_key (tree ks a) ≡ false = not_proved (is_key (tree ks a)) (key_decides (tree ks a)) w.0 in
          subst (λ p. Performed (state_by ks ps ss) mating (numberTold (accepted p)) (state_by ms ps ss)) (sym w.1)
          (refused_as_before t u 4 a b ps ss WrongKind WrongPart w.2 refl (rw (nth_trees ks a l, k) refl))
      by (Some Itself) l e w = answered a w.0 w.1 l Itself e
      by (Some (Inside i)) l e w = answered i w.0 w.1 l (Inside i) e
      by (Some Apart) l e w = mate_inserted o l e w m.stands m.keeps ps ss kp kt

      go : (a < length ks) ⊎ (length ks ≤ a) → Performed (state_by ks ps ss) mating (numberTold (accepted o)) (state_by ms ps ss)
      go (inl l) = by (mate_case (node_at ks a)) l refl (m.known l)
      go (inr l) =
          let w = m.unknown l in
          subst (λ p. Performed (state_by ks ps ss) mating (numberTold (accepted p)) (state_by ms ps ss)) (sym w.0)
          (refused_as_before t u 4 a b ps ss Unknown NoTerm w.1 refl (rw (none_trees ks a l) refl))

  pub mate_adds : (f : ℕ) → f ≡ 4 → (o : Result ℕ TermError) → Mated t a o u → Adds t (BUILD f a b) (accepted o) u
  mate_adds f e o m = subst (λ g. Adds t (BUILD g a b) (accepted o) u) (sym e) (record {
    performed = mate_performed o m;
    longer = keeps_longer ks ms m.keeps;
    unaltered = unaltered_accepted o t u m.unchanged;
  })

-- the refusal of the table, as the protocol's
pub told_refused : (r : Result ℕ Refusal) (e : TermError) → IsErrAnd r (λ x. x ≡ refused_as e) → r ≡ Err (refused_as e)
told_refused r e h = let q = err_from_is_err_and r h in q.1 ∙ ap Err q.2
