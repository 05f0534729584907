-- The values of the symbolic provider, well-formed terms, and what the makings make of them.
use Rattle.std.specs.Prelude.{ℕ, Bool, cond, [], ◌∷◌, Some, None, Option, slice_index_or}
use Rattle.deduction.specs.Term.{Kind, party, number, shared, public, table, function, Form, pair, sealed, digest, entry, Term, name, built, mate, mate_of, opener}
use Rattle.deduction.specs.Decide.{same_term, is_key, parts_fit}
use Rattle.provider.specs.Algebra.{Algebra}

-- the kind of a number from 0 to 5
abbrev pub kind_at : ℕ → Kind
kind_at n = slice_index_or (party ∷ number ∷ shared ∷ public ∷ table ∷ function ∷ []) n party

abbrev pub when : {X : Type 0} → Bool → X → Option X
when b x = cond b (Some x) None

abbrev pub left_form : Form → Term → Option Term
left_form pair a = Some a
left_form sealed a = None
left_form digest a = None
left_form entry a = None

-- the left half of a pair
abbrev pub left_of : Term → Option Term
left_of (name k i) = None
left_of (built f a b) = left_form f a
left_of (mate k) = None

-- the right half of a pair
abbrev pub right_of : Term → Option Term
right_of (name k i) = None
right_of (built f a b) = left_form f b
right_of (mate k) = None

abbrev pub open_form : Form → Term → Term → Term → Option Term
open_form pair c k o = None
open_form sealed c k o = when (same_term o (opener k)) c
open_form digest c k o = None
open_form entry c k o = None

-- the content of a sealed term, with its key's opener and nothing else
abbrev pub open_of : Term → Term → Option Term
open_of (name k i) o = None
open_of (built f c k) o = open_form f c k o
open_of (mate k) o = None

-- a two-part term whose parts are such as the form asks for
abbrev pub build_of : Form → Term → Term → Option Term
build_of f a b = when (parts_fit f a b) (built f a b)

abbrev pub mate_if : Term → Option Term
mate_if k = when (is_key k) (mate_of k)

abbrev pub term_algebra : Algebra Term
term_algebra = record {
  atom = λ k i. name (kind_at k) i;
  join = built pair;
  left = left_of;
  right = right_of;
  seal = build_of sealed;
  opens = open_of;
  digest = build_of digest;
  entry = build_of entry;
  mate = mate_if;
}
