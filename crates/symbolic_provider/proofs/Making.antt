-- Inserting a record of terms is carrying out its making.
use Rattle.std.proofs.Common.{◌≡◌, ℕ, ◌<◌, ◌≤◌, Bool, true, false, ◌⊎◌, List, [], ◌∷◌, length, Some, None, Ok, Err, Decides, Option, Result, sym, refl, ap, ◌∙◌, inl, inr, ⊎_elim, length-append, leb, le-leb}
use Rattle.std.proofs.lemmas.Bool.{cases_lt}
use Rattle.deduction.specs.Term.{Term, built}
use Rattle.deduction.specs.Decide.{parts_fit}
use Rattle.deduction.proofs.Decide.{fit_decides}
use Rattle.provider.specs.declared.Making.{Making}
use Rattle.provider.specs.declared.Making.TheVariants.{Atom}
use Rattle.provider.specs.Meaning.{stands, on}
use Rattle.terms.specs.declared.node.Form.{Form}
use Rattle.terms.specs.declared.node.Form.TheVariants.{Pair, Sealed, Digest, Entry}
use Rattle.terms.specs.declared.node.TermNode.{TermNode}
use Rattle.terms.specs.declared.node.TermNode.TheVariants.{Name, Built}
use Rattle.terms.specs.declared.node.Kind.{Kind}
use Rattle.terms.specs.declared.node.Kind.TheVariants.{Party, Number, Shared, Public, Table, Function}
use Rattle.terms.specs.Node.{kind_number}
use Rattle.terms.specs.declared.node.TermError.{TermError}
use Rattle.terms.specs.declared.node.TermError.TheVariants.{Unknown, WrongKind, Full as NoPlace}
use Rattle.terms.specs.Listed.{Inserted}
use Rattle.terms.specs.Outcome.{Known, Proper, Absent}
use Rattle.terms.specs.Tree.{tree, tree_of, kind_of, form_of, Orderly}
use Rattle.terms.proofs.Insert.{known_below}
use Rattle.terms.proofs.Listed.{orderly}
use Rattle.terms.proofs.Trees.{record_of}
use Rattle.symbolic_provider.specs.declared.store.SymbolicProvider.{SymbolicProvider}
use Rattle.symbolic_provider.specs.Makings.{answer_of, form_making}
use Rattle.symbolic_provider.specs.Outcome.{Done}
use Rattle.symbolic_provider.specs.State.{nodes_of, issued_of, made_of}
use Rattle.symbolic_provider.specs.Values.{kind_at, when, build_of}
use Rattle.symbolic_provider.proofs.Done.{wrong, full, held, new}
use Rattle.symbolic_provider.specs.Issued.{stands_in, stands_out}

-- what a record's parts say of the making: its tree if they are known and fit, else nothing
pub record Makes (s : SymbolicProvider) (m : Making) (r : TermNode) : Type 0 where
  pub some : Known (nodes_of s) r → Proper (nodes_of s) r → made_of s m ≡ Some (tree_of r (tree (nodes_of s)))
  pub unknown : (Known (nodes_of s) r → ⊥) → made_of s m ≡ None
  pub unfit : Known (nodes_of s) r → (Proper (nodes_of s) r → ⊥) → made_of s m ≡ None

-- no number stands for the tree of a record that is absent
absent_tree : (ts : List TermNode) (r : TermNode) → Orderly ts → Known ts r → Absent ts r → (a : ℕ) → a < length ts → tree ts a ≡ tree_of r (tree ts) → ⊥
absent_tree ts r ok known none a l e = none a l (record_of ts ok r a (known_below ts r known) l e)

pub inserted : (s s' : SymbolicProvider) (m : Making) (r : TermNode) (o : Result ℕ TermError) → Makes s m r → Inserted s.terms r o s'.terms → Done s m (answer_of o) s'
inserted s s' m r (Err Unknown) k i = wrong s s' m (k.unknown i.outcome.0) (ap (λ t. record { terms = t }) i.unchanged)
inserted s s' m r (Err WrongKind) k i = wrong s s' m (k.unfit i.outcome.0.0 i.outcome.0.1) (ap (λ t. record { terms = t }) i.unchanged)
inserted s s' m r (Err NoPlace) k i =
    let f = i.outcome.0 in
    full s m (tree_of r (tree (nodes_of s))) (k.some f.0 f.1) s' (absent_tree (nodes_of s) r (orderly s.terms) f.0 f.2) f.3 (ap (λ t. record { terms = t }) i.unchanged)
inserted s s' m r (Ok n) k i =
    let f = i.outcome in
    let makes = k.some f.0 f.1 in
    ⊎_elim
    (λ h. held s m (tree_of r (tree (nodes_of s))) makes s' n h.0.0 (ap (λ ts. tree ts n) (sym h.1) ∙ i.stands.1) h.1)
    (λ h.
    let e : n ≡ length (nodes_of s) = h.2 in
    let d : Done s m (Ok (length (nodes_of s))) s' =
    new s m (tree_of r (tree (nodes_of s))) makes s' (absent_tree (nodes_of s) r (orderly s.terms) f.0 h.0) h.1
    (ap length h.3 ∙ length-append (nodes_of s) (r ∷ []))
    (λ a l. (i.keeps a l).1)
    (ap (tree (nodes_of s')) (sym e) ∙ i.stands.1) in
    rw e d)
    f.2

-- what a two-part form makes of two handles
both : (s : SymbolicProvider) (g : Form) (a b : ℕ) → made_of s (form_making g a b) ≡ on (stands (issued_of s) a) (λ x. on (stands (issued_of s) b) (λ y. build_of (form_of g) x y))
both s Pair a b = refl
both s Sealed a b = refl
both s Digest a b = refl
both s Entry a b = refl

pub on_none : {X Y : Type 0} (o : Option X) → on {Y = Y} o (λ _. None) ≡ None
on_none None = refl
on_none (Some x) = refl

pub no_fit : {P : Type 0} (t : Bool) → Decides t P → (P → ⊥) → t ≡ false
no_fit true d f = absurd (f (d.0 refl))
no_fit false d f = refl

module _ (s : SymbolicProvider) (a b : ℕ) where
  -- nothing is made of a handle that was never issued
  none_made : (g : Term → Term → Option Term) → ((a < length (nodes_of s)) × (b < length (nodes_of s)) → ⊥) → (a < length (nodes_of s)) ⊎ (length (nodes_of s) ≤ a) → (b < length (nodes_of s)) ⊎ (length (nodes_of s) ≤ b) → on (stands (issued_of s) a) (λ x. on (stands (issued_of s) b) (λ y. g x y)) ≡ None
  none_made g none (inl la) (inl lb) = absurd (none (la, lb))
  none_made g none (inl la) (inr gb) = rw (stands_out (nodes_of s) (length (nodes_of s)) b gb) (on_none (stands (issued_of s) a))
  none_made g none (inr ga) (inl lb) = rw (stands_out (nodes_of s) (length (nodes_of s)) a ga) refl
  none_made g none (inr ga) (inr gb) = rw (stands_out (nodes_of s) (length (nodes_of s)) a ga) refl

  pub form_makes : (g : Form) → Makes s (form_making g a b) (Built g a b)
  form_makes g =
      let ts = nodes_of s in
      let n = length (nodes_of s) in
      record {
        some = λ known proper.
            both s g a b ∙ rw (stands_in ts n a known.0, stands_in ts n b known.1) (ap (λ v. when v (built (form_of g) (tree ts a) (tree ts b))) ((fit_decides (form_of g) (tree ts a) (tree ts b)).1 proper));
        unknown = λ none. both s g a b ∙ none_made (build_of (form_of g)) none (cases_lt a n) (cases_lt b n);
        unfit = λ known unfit.
            both s g a b ∙ rw (stands_in ts n a known.0, stands_in ts n b known.1) (ap (λ v. when v (built (form_of g) (tree ts a) (tree ts b))) (no_fit (parts_fit (form_of g) (tree ts a) (tree ts b)) (fit_decides (form_of g) (tree ts a) (tree ts b)) unfit));
      }

-- an atom within the bounds
kind_bound : (k : Kind) → (leb (kind_number k) 5 ≡ true) × (kind_of k ≡ kind_at (kind_number k))
kind_bound Party = (refl, refl)
kind_bound Number = (refl, refl)
kind_bound Shared = (refl, refl)
kind_bound Public = (refl, refl)
kind_bound Table = (refl, refl)
kind_bound Function = (refl, refl)

pub atom_makes : (s : SymbolicProvider) (kind id : ℕ) (k : Kind) → kind_number k ≡ kind → id ≤ 65535 → Makes s (Atom kind id) (Name k id)
atom_makes s kind id k e li = rw (← e) (record {
  some = λ known proper. rw ((kind_bound k).0, le-leb id 65535 li, (kind_bound k).1) refl;
  unknown = λ none. absurd (none tt);
  unfit = λ known unfit. absurd (unfit tt);
})
