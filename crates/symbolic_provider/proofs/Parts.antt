-- Taking apart and opening, and the mates of keys.
use Rattle.std.proofs.Common.{◌≡◌, ◌≢◌, ℕ, ◌<◌, ◌≤◌, true, length, Some, None, Ok, Err, Option, Result, sym, refl, ap, ◌∙◌, ⊎_elim, arith}
use Rattle.std.proofs.lemmas.Bool.{cases_lt}
use Rattle.std.specs.Option.{ok_or, option_map}
use Rattle.deduction.specs.Term.{Term, mate, Key, Asymmetric, Formed, mate_of, opener}
use Rattle.deduction.specs.Decide.{same_term, is_key}
use Rattle.deduction.proofs.Decide.{same_decides, key_decides}
use Rattle.provider.specs.declared.Making.TheVariants.{Left, Right, Open, Mate as MATE}
use Rattle.provider.specs.declared.ProviderError.TheVariants.{Wrong}
use Rattle.provider.specs.Meaning.{stands, on}
use Rattle.terms.specs.declared.node.Kind.TheVariants.{Party, Number, Shared, Public, Table, Function}
use Rattle.terms.specs.declared.node.Form.{Form}
use Rattle.terms.specs.declared.node.Form.TheVariants.{Pair, Sealed, Digest, Entry}
use Rattle.terms.specs.declared.node.TermNode.{TermNode}
use Rattle.terms.specs.declared.node.TermNode.TheVariants.{Name, Built, Mate}
use Rattle.terms.specs.declared.node.TermError.{TermError}
use Rattle.terms.specs.declared.node.TermError.TheVariants.{WrongKind}
use Rattle.terms.specs.declared.node.MateCase.{MateCase}
use Rattle.terms.specs.declared.node.MateCase.TheVariants.{Itself, Inside, Apart}
use Rattle.terms.specs.Listed.{Mated}
use Rattle.terms.specs.Node.{node_at, mate_case}
use Rattle.terms.specs.Outcome.{MatesBy, Opens, Stands, Inserts}
use Rattle.terms.specs.Tree.{tree, tree_of}
use Rattle.terms.proofs.Formed.{formed}
use Rattle.terms.proofs.Listed.{orderly}
use Rattle.terms.proofs.Trees.{tree_at, tree_is, parts_lower, numbers_apart}
use Rattle.symbolic_provider.specs.declared.store.SymbolicProvider.{SymbolicProvider}
use Rattle.symbolic_provider.specs.Makings.{PartsAt, answer_of}
use Rattle.symbolic_provider.specs.Outcome.{Done}
use Rattle.symbolic_provider.specs.State.{nodes_of, issued_of, made_of}
use Rattle.symbolic_provider.specs.Values.{left_of, right_of, open_of, when}
use Rattle.symbolic_provider.proofs.Done.{wrong, held}
use Rattle.symbolic_provider.specs.Issued.{stands_in, stands_out}
use Rattle.symbolic_provider.proofs.Making.{Makes, inserted, no_fit}

-- what is no pair has no halves, what is not sealed does not open
no_halves : (r : TermNode) (f : ℕ → Term) → ((a b : ℕ) → r ≢ Built Pair a b) → (left_of (tree_of r f) ≡ None) × (right_of (tree_of r f) ≡ None)
no_halves (Name k i) f none = (refl, refl)
no_halves (Built Pair a b) f none = absurd (none a b refl)
no_halves (Built Sealed a b) f none = (refl, refl)
no_halves (Built Digest a b) f none = (refl, refl)
no_halves (Built Entry a b) f none = (refl, refl)
no_halves (Mate k) f none = (refl, refl)

no_content : (r : TermNode) (f : ℕ → Term) (o : Term) → ((a b : ℕ) → r ≢ Built Sealed a b) → open_of (tree_of r f) o ≡ None
no_content (Name k i) f o none = refl
no_content (Built Pair a b) f o none = refl
no_content (Built Sealed a b) f o none = absurd (none a b refl)
no_content (Built Digest a b) f o none = refl
no_content (Built Entry a b) f o none = refl
no_content (Mate k) f o none = refl

module _ (s : SymbolicProvider) where
  -- what one handle makes: nothing where it was never issued
  one : (a : ℕ) (g : Term → Option Term) → (a < length (nodes_of s) → g (tree (nodes_of s) a) ≡ None) → on (stands (issued_of s) a) g ≡ None
  one a g h =
      ⊎_elim
      (λ (l : a < length (nodes_of s)). rw (stands_in (nodes_of s) (length (nodes_of s)) a l) (h l))
      (λ (o : length (nodes_of s) ≤ a). rw (stands_out (nodes_of s) (length (nodes_of s)) a o) refl)
      (cases_lt a (length (nodes_of s)))

  lower : (h : ℕ) (f : Form) (a b : ℕ) → h < length (nodes_of s) → node_at (nodes_of s) h ≡ Built f a b → (a < length (nodes_of s)) × (b < length (nodes_of s))
  lower h f a b l e = let p = parts_lower (nodes_of s) (orderly s.terms).lower h f a b l e in (omega (arith, p.0), omega (arith, p.1))

  no_pair : (h : ℕ) → PartsAt Pair (nodes_of s) h None → (l : h < length (nodes_of s)) → (left_of (tree (nodes_of s) h) ≡ None) × (right_of (tree (nodes_of s) h) ≡ None)
  no_pair h at l =
      let e = tree_is (nodes_of s) (orderly s.terms).lower h l in
      let n = no_halves (node_at (nodes_of s) h) (tree (nodes_of s)) (λ a b. at a b l) in
      (ap left_of e ∙ n.0, ap right_of e ∙ n.1)

  pair_tree : (h : ℕ) (p : ℕ × ℕ) → PartsAt Pair (nodes_of s) h (Some p) → tree (nodes_of s) h ≡ tree_of (Built Pair p.0 p.1) (tree (nodes_of s))
  pair_tree h p at = tree_at (nodes_of s) (orderly s.terms).lower h (Built Pair p.0 p.1) at.0 at.1

  -- taking apart: the half of a pair, and Wrong of what is none
  pub left_done : (h : ℕ) (o : Option (ℕ × ℕ)) → PartsAt Pair (nodes_of s) h o → Done s (Left h) (ok_or (option_map (λ p. p.0) o) Wrong) s
  left_done h None at = wrong s s (Left h) (one h left_of (λ l. (no_pair h at l).0)) refl
  left_done h (Some p) at =
      let e : made_of s (Left h) ≡ Some (tree (nodes_of s) p.0) = rw (stands_in (nodes_of s) (length (nodes_of s)) h at.0) (ap left_of (pair_tree h p at)) in
      held s (Left h) (tree (nodes_of s) p.0) e s p.0 (lower h Pair p.0 p.1 at.0 at.1).0 refl refl

  pub right_done : (h : ℕ) (o : Option (ℕ × ℕ)) → PartsAt Pair (nodes_of s) h o → Done s (Right h) (ok_or (option_map (λ p. p.1) o) Wrong) s
  right_done h None at = wrong s s (Right h) (one h right_of (λ l. (no_pair h at l).1)) refl
  right_done h (Some p) at =
      let e : made_of s (Right h) ≡ Some (tree (nodes_of s) p.1) = rw (stands_in (nodes_of s) (length (nodes_of s)) h at.0) (ap right_of (pair_tree h p at)) in
      held s (Right h) (tree (nodes_of s) p.1) e s p.1 (lower h Pair p.0 p.1 at.0 at.1).1 refl refl

  -- opening
  pub open_unsealed : (h o : ℕ) → PartsAt Sealed (nodes_of s) h None → Done s (Open h o) (Err Wrong) s
  open_unsealed h o at =
      wrong s s (Open h o)
      (one h (λ x. on (stands (issued_of s) o) (open_of x)) (λ l.
      ap (λ x. on (stands (issued_of s) o) (open_of x)) (tree_is (nodes_of s) (orderly s.terms).lower h l)
      ∙ one o (open_of (tree_of (node_at (nodes_of s) h) (tree (nodes_of s)))) (λ lo. no_content (node_at (nodes_of s) h) (tree (nodes_of s)) (tree (nodes_of s) o) (λ a b. at a b l))))
      refl

  module _ (h : ℕ) (p : ℕ × ℕ) (at : PartsAt Sealed (nodes_of s) h (Some p)) (o : ℕ) where
    sealed_tree : tree (nodes_of s) h ≡ tree_of (Built Sealed p.0 p.1) (tree (nodes_of s))
    sealed_tree = tree_at (nodes_of s) (orderly s.terms).lower h (Built Sealed p.0 p.1) at.0 at.1

    opens_by : made_of s (Open h o) ≡ on (stands (issued_of s) o) (λ x. when (same_term x (opener (tree (nodes_of s) p.1))) (tree (nodes_of s) p.0))
    opens_by = rw (stands_in (nodes_of s) (length (nodes_of s)) h at.0) (ap (λ x. on (stands (issued_of s) o) (open_of x)) sealed_tree)

    key_at : Key (tree (nodes_of s) p.1)
    key_at = let f : Formed _ = formed (nodes_of s) (orderly s.terms) h at.0 in (rw sealed_tree at f).2

    pub open_done : Opens (nodes_of s) p.1 (Some o) → Done s (Open h o) (Ok p.0) s
    open_done op =
        let e : made_of s (Open h o) ≡ Some (tree (nodes_of s) p.0) =
        opens_by ∙ rw (stands_in (nodes_of s) (length (nodes_of s)) o op.2) (ap (λ b. when b (tree (nodes_of s) p.0)) ((same_decides (tree (nodes_of s) o) (opener (tree (nodes_of s) p.1))).1 op.3)) in
        held s (Open h o) (tree (nodes_of s) p.0) e s p.0 (lower h Sealed p.0 p.1 at.0 at.1).0 refl refl

    -- no other term opens it
    not_opener : (o < length (nodes_of s) → tree (nodes_of s) o ≡ opener (tree (nodes_of s) p.1) → ⊥) → Done s (Open h o) (Err Wrong) s
    not_opener ne =
        wrong s s (Open h o)
        (opens_by ∙ one o (λ x. when (same_term x (opener (tree (nodes_of s) p.1))) (tree (nodes_of s) p.0)) (λ l.
        ap (λ b. when b (tree (nodes_of s) p.0)) (no_fit (same_term (tree (nodes_of s) o) (opener (tree (nodes_of s) p.1))) (same_decides (tree (nodes_of s) o) (opener (tree (nodes_of s) p.1))) (ne l))))
        refl

    pub open_other : (q : Option ℕ) → Opens (nodes_of s) p.1 q → q ≢ Some o → Done s (Open h o) (Err Wrong) s
    open_other (Some q) op ne = not_opener (λ l e. ne (ap Some (numbers_apart (nodes_of s) (orderly s.terms) q o op.2 l (op.3 ∙ sym e))))
    open_other None op ne = not_opener (λ l e. op (lower h Sealed p.0 p.1 at.0 at.1).1 key_at o l e)

-- mates: what a mate case says of the term
case_key : (r : TermNode) (f : ℕ → Term) (c : MateCase) → mate_case r ≡ Some c → is_key (tree_of r f) ≡ true
case_key (Name Party i) f c e = cc
case_key (Name Number i) f c e = cc
case_key (Name Shared i) f c e = refl
case_key (Name Public i) f c e = refl
case_key (Name Table i) f c e = cc
case_key (Name Function i) f c e = cc
case_key (Built Pair a b) f c e = cc
case_key (Built Sealed a b) f c e = cc
case_key (Built Digest a b) f c e = cc
case_key (Built Entry a b) f c e = refl
case_key (Mate k) f c e = refl

case_apart : (r : TermNode) (f : ℕ → Term) → mate_case r ≡ Some Apart → Asymmetric (tree_of r f) × (mate_of (tree_of r f) ≡ mate (tree_of r f))
case_apart (Name Party i) f e = cc
case_apart (Name Number i) f e = cc
case_apart (Name Shared i) f e = cc
case_apart (Name Public i) f e = (refl, refl)
case_apart (Name Table i) f e = cc
case_apart (Name Function i) f e = cc
case_apart (Built Pair a b) f e = cc
case_apart (Built Sealed a b) f e = cc
case_apart (Built Digest a b) f e = cc
case_apart (Built Entry a b) f e = (tt, refl)
case_apart (Mate k) f e = cc

module _ (s s' : SymbolicProvider) (key : ℕ) (o : Result ℕ TermError) (d : Mated s.terms key o s'.terms) where
  same_state : s'.terms ≡ s.terms → s' ≡ s
  same_state e = ap (λ t. record { terms = t }) e

  -- a key that is no term
  mate_unknown : length (nodes_of s) ≤ key → Done s (MATE key) (answer_of o) s'
  mate_unknown g =
      let e = (d.unknown g).0 in
      let u : s'.terms ≡ s.terms = rw e at d.unchanged in
      rw e (wrong s s' (MATE key) (rw (stands_out (nodes_of s) (length (nodes_of s)) key g) refl) (same_state u))

  module _ (l : key < length (nodes_of s)) where
    -- the mate of the key is made where the term is a key
    mate_makes : is_key (tree (nodes_of s) key) ≡ true → made_of s (MATE key) ≡ Some (mate_of (tree (nodes_of s) key))
    mate_makes k = rw (stands_in (nodes_of s) (length (nodes_of s)) key l) (ap (λ b. when b (mate_of (tree (nodes_of s) key))) k)

    is_key_lem : (c : MateCase) → mate_case (node_at (nodes_of s) key) ≡ Some c → is_key (tree (nodes_of s) key) ≡ true
    is_key_lem c e = ap is_key (tree_is (nodes_of s) (orderly s.terms).lower key l) ∙ case_key (node_at (nodes_of s) key) (tree (nodes_of s)) c e

    -- a mate that is held already
    mate_held : (h : ℕ) (c : MateCase) → mate_case (node_at (nodes_of s) key) ≡ Some c → o ≡ Ok h → nodes_of s' ≡ nodes_of s → Done s (MATE key) (answer_of o) s'
    mate_held h c e eo same =
        let st : Stands (nodes_of s') (Ok h) (mate_of (tree (nodes_of s) key)) = rw eo at d.stands in
        let lh : h < length (nodes_of s) = rw same at st.0 in
        rw eo (held s (MATE key) (mate_of (tree (nodes_of s) key)) (mate_makes (is_key_lem c e)) s' h lh (ap (λ ts. tree ts h) (sym same) ∙ st.1) same)

    mate_no_key : (Key (tree (nodes_of s) key) → ⊥) → o ≡ Err WrongKind → Done s (MATE key) (answer_of o) s'
    mate_no_key nk eo =
        let u : s'.terms ≡ s.terms = rw eo at d.unchanged in
        let e : made_of s (MATE key) ≡ None = rw (stands_in (nodes_of s) (length (nodes_of s)) key l) (ap (λ b. when b (mate_of (tree (nodes_of s) key))) (no_fit (is_key (tree (nodes_of s) key)) (key_decides (tree (nodes_of s) key)) nk)) in
        rw eo (wrong s s' (MATE key) e (same_state u))

    -- a mate of its own, found or added
    mate_apart : mate_case (node_at (nodes_of s) key) ≡ Some Apart → Inserts 1024 (nodes_of s) (Mate key) o (nodes_of s') → Done s (MATE key) (answer_of o) s'
    mate_apart e ins =
        let t = tree_is (nodes_of s) (orderly s.terms).lower key l in
        let a = case_apart (node_at (nodes_of s) key) (tree (nodes_of s)) e in
        let asym : Asymmetric (tree (nodes_of s) key) = rw t a.0 in
        let own : mate_of (tree (nodes_of s) key) ≡ mate (tree (nodes_of s) key) = rw t a.1 in
        let makes : Makes s (MATE key) (Mate key) = record {
          some = λ known proper. mate_makes (is_key_lem Apart e) ∙ ap Some own;
          unknown = λ none. absurd (none l);
          unfit = λ known no. absurd (no asym);
        } in
        inserted s s' (MATE key) (Mate key) o makes (record { outcome = ins; stands = rw own at d.stands; keeps = d.keeps; unchanged = d.unchanged })

    by_case : (c : Option MateCase) → mate_case (node_at (nodes_of s) key) ≡ c → MatesBy 1024 (nodes_of s) key c o (nodes_of s') → Done s (MATE key) (answer_of o) s'
    by_case None e m = mate_no_key m.0 m.1
    by_case (Some Itself) e m = mate_held key Itself e m.0 m.1
    by_case (Some (Inside a)) e m = mate_held a (Inside a) e m.0 m.1
    by_case (Some Apart) e m = mate_apart e m

  pub mate_done : Done s (MATE key) (answer_of o) s'
  mate_done =
      ⊎_elim
      (λ (l : key < length (nodes_of s)). by_case l (mate_case (node_at (nodes_of s) key)) refl (d.known l))
      (λ (g : length (nodes_of s) ≤ key). mate_unknown g)
      (cases_lt key (length (nodes_of s)))
