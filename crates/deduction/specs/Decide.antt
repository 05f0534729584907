-- Tests for keys, kinds and parts.
use Rattle.std.specs.Prelude.{Bool, true, false, ◌&&◌}
use Rattle.deduction.specs.Term.{Kind, party, number, shared, public, table, function, Kind-discrete, Form, pair, sealed, digest, entry, Term, name, built, mate, term_decision}

-- the answer of a decision
abbrev pub decided : {A : Type 0} → Dec A → Bool
decided (yes a) = true
decided (no a) = false

abbrev pub same_term : Term → Term → Bool
same_term a b = decided (term_decision a b)

abbrev pub same_kind : Kind → Kind → Bool
same_kind a b = decided (Kind-discrete a b)

abbrev pub is_key_kind : Kind → Bool
is_key_kind party = false
is_key_kind number = false
is_key_kind shared = true
is_key_kind public = true
is_key_kind table = false
is_key_kind function = false

abbrev pub is_key_form : Form → Bool
is_key_form pair = false
is_key_form sealed = false
is_key_form digest = false
is_key_form entry = true

abbrev pub is_key : Term → Bool
is_key (name k i) = is_key_kind k
is_key (built f a b) = is_key_form f
is_key (mate k) = true

abbrev pub is_named : Kind → Term → Bool
is_named k (name k' i) = same_kind k' k
is_named k (built f a b) = false
is_named k (mate e) = false

-- the two parts are such as the form asks for
abbrev pub parts_fit : Form → Term → Term → Bool
parts_fit pair a b = true
parts_fit sealed c k = is_key k
parts_fit digest f t = is_named function f
parts_fit entry t p = is_named table t && is_named party p
