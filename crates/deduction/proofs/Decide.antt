-- The tests decide what they test.
use Rattle.std.proofs.Common.{◌≡◌, true, false, Decides, refl}
use mathlib.Core.Bool.{false≢true}
use Rattle.std.proofs.lemmas.Bool.Decides.{Decides-and}
use Rattle.deduction.specs.Term.{Kind, party, number, shared, public, table, function, Kind-discrete, Form, pair, sealed, digest, entry, Term, name, built, mate, term_decision, Key, KeyKind, KeyForm, Named, PartsFit}
use Rattle.deduction.specs.Decide.{decided, same_term, same_kind, is_key_kind, is_key_form, is_key, is_named, parts_fit}

never : {A : Type 0} → (A → ⊥) → Decides false A
never f = ((λ e. absurd (false≢true e)), (λ a. absurd (f a)))

always : {A : Type 0} → A → Decides true A
always a = ((λ e. a), (λ b. refl))

decided_right : {A : Type 0} (d : Dec A) → Decides (decided d) A
decided_right (yes a) = always a
decided_right (no f) = never f

pub same_decides : (a b : Term) → Decides (same_term a b) (a ≡ b)
same_decides a b = decided_right (term_decision a b)

same_kind_decides : (a b : Kind) → Decides (same_kind a b) (a ≡ b)
same_kind_decides a b = decided_right (Kind-discrete a b)

key_kind_decides : (k : Kind) → Decides (is_key_kind k) (KeyKind k)
key_kind_decides party = never (λ e. e)
key_kind_decides number = never (λ e. e)
key_kind_decides shared = always tt
key_kind_decides public = always tt
key_kind_decides table = never (λ e. e)
key_kind_decides function = never (λ e. e)

key_form_decides : (f : Form) → Decides (is_key_form f) (KeyForm f)
key_form_decides pair = never (λ e. e)
key_form_decides sealed = never (λ e. e)
key_form_decides digest = never (λ e. e)
key_form_decides entry = always tt

pub key_decides : (t : Term) → Decides (is_key t) (Key t)
key_decides (name k i) = key_kind_decides k
key_decides (built f a b) = key_form_decides f
key_decides (mate k) = always tt

named_decides : (k : Kind) (t : Term) → Decides (is_named k t) (Named k t)
named_decides k (name k' i) = same_kind_decides k' k
named_decides k (built f a b) = never (λ e. e)
named_decides k (mate e) = never (λ e. e)

pub fit_decides : (f : Form) (a b : Term) → Decides (parts_fit f a b) (PartsFit f a b)
fit_decides pair a b = always tt
fit_decides sealed c k = key_decides k
fit_decides digest f t = named_decides function f
fit_decides entry t p = Decides-and (is_named table t) (is_named party p) (named_decides table t) (named_decides party p)
