-- The records of numbered terms, and what the table keeps true of them.
use Rattle.std.specs.Prelude.{◌≡◌, ℕ, ◌+◌, ◌<◌, ◌≤◌, Bool, true, false, ◌&&◌, List, length, Some, None, Option, Result, MatchResult, ◌==◌, ◌≢◌, slice_index_or}
use Rattle.terms.specs.declared.node.Kind.{Kind}
use Rattle.terms.specs.declared.node.Kind.TheVariants.{Party, Number, Shared, Public, Table, Function}
use Rattle.terms.specs.declared.node.Form.{Form}
use Rattle.terms.specs.declared.node.Form.TheVariants.{Pair, Sealed, Digest, Entry}
use Rattle.terms.specs.declared.node.TermNode.{TermNode}
use Rattle.terms.specs.declared.node.TermNode.TheVariants.{Name, Built, Mate}
use Rattle.terms.specs.declared.node.MateCase.{MateCase}
use Rattle.terms.specs.declared.node.MateCase.TheVariants.{Itself, Inside, Apart}
use Rattle.terms.specs.declared.node.UnknownKind.{UnknownKind}
use Rattle.terms.specs.declared.node.UnknownForm.{UnknownForm}

-- the record of a number; past the end what an unused place holds
abbrev pub node_at : List TermNode → ℕ → TermNode
node_at ts i = slice_index_or ts i (Name Party 0)

-- one more than the number of the first part; 0 for a name
abbrev pub past_first : TermNode → ℕ
past_first (Name k i) = 0
past_first (Built f a b) = a + 1
past_first (Mate a) = a + 1

-- one more than the number of the second part; 0 where there is none
abbrev pub past_second : TermNode → ℕ
past_second (Name k i) = 0
past_second (Built f a b) = b + 1
past_second (Mate a) = 0

-- every part has a number below n
abbrev pub PartsBelow : ℕ → TermNode → Type 0
PartsBelow n r = (past_first r ≤ n) × (past_second r ≤ n)

-- a kind's number
abbrev pub kind_number : Kind → ℕ
kind_number Party = 0
kind_number Number = 1
kind_number Shared = 2
kind_number Public = 3
kind_number Table = 4
kind_number Function = 5

-- the kind with the number, or an error with a number that no kind has
abbrev pub KindAt : ℕ → Result Kind UnknownKind → Type 0
KindAt n r = MatchResult r (λ k. kind_number k ≡ n) (λ e. (e.0 ≡ n) × (5 < n))

-- a form's number
abbrev pub form_number : Form → ℕ
form_number Pair = 0
form_number Sealed = 1
form_number Digest = 2
form_number Entry = 3

-- the form with the number, or an error with a number that no form has
abbrev pub FormAt : ℕ → Result Form UnknownForm → Type 0
FormAt n r = MatchResult r (λ f. form_number f ≡ n) (λ e. (e.0 ≡ n) × (3 < n))

-- names of these kinds are keys
abbrev pub is_key_kind : Kind → Bool
is_key_kind Party = false
is_key_kind Number = false
is_key_kind Shared = true
is_key_kind Public = true
is_key_kind Table = false
is_key_kind Function = false

-- of the two-part forms only the entry is a key
abbrev pub is_key_form : Form → Bool
is_key_form Pair = false
is_key_form Sealed = false
is_key_form Digest = false
is_key_form Entry = true

-- a shared or public key, an entry or a mate
abbrev pub is_key : TermNode → Bool
is_key (Name k i) = is_key_kind k
is_key (Built f a b) = is_key_form f
is_key (Mate a) = true

-- a name of the kind
abbrev pub is_named : Kind → TermNode → Bool
is_named k (Name own i) = kind_number own == kind_number k
is_named k (Built f a b) = false
is_named k (Mate a) = false

-- a public key or an entry
abbrev pub is_asymmetric : TermNode → Bool
is_asymmetric (Name k i) = kind_number k == kind_number Public
is_asymmetric (Built f a b) = is_key_form f
is_asymmetric (Mate a) = false

-- what the mate of a name is
abbrev pub mate_of_kind : Kind → Option MateCase
mate_of_kind Party = None
mate_of_kind Number = None
mate_of_kind Shared = Some Itself
mate_of_kind Public = Some Apart
mate_of_kind Table = None
mate_of_kind Function = None

-- what the mate of a two-part term is
abbrev pub mate_of_form : Form → Option MateCase
mate_of_form Pair = None
mate_of_form Sealed = None
mate_of_form Digest = None
mate_of_form Entry = Some Apart

-- what the mate of a term is, none for what is no key: a shared key is its own mate, a mate has the key inside, a public key
-- or an entry has one apart
abbrev pub mate_case : TermNode → Option MateCase
mate_case (Name k i) = mate_of_kind k
mate_case (Built f a b) = mate_of_form f
mate_case (Mate a) = Some (Inside a)

-- the two parts are such as the form asks for
abbrev pub parts_fit : Form → TermNode → TermNode → Bool
parts_fit Pair a b = true
parts_fit Sealed c k = is_key k
parts_fit Digest f t = is_named Function f
parts_fit Entry t p = is_named Table t && is_named Party p

-- the parts of the record are such as it asks for
abbrev pub fits : List TermNode → TermNode → Bool
fits ts (Name k i) = true
fits ts (Built f a b) = parts_fit f (node_at ts a) (node_at ts b)
fits ts (Mate a) = is_asymmetric (node_at ts a)

-- every part has a lower number than the whole
abbrev pub Lower : List TermNode → Type 0
Lower ts = (i : ℕ) → i < length ts → PartsBelow i (node_at ts i)

-- every record has parts such as it asks for
abbrev pub Fitting : List TermNode → Type 0
Fitting ts = (i : ℕ) → i < length ts → fits ts (node_at ts i) ≡ true

-- no record stands twice
abbrev pub Once : List TermNode → Type 0
Once ts = (i j : ℕ) → i < j → j < length ts → node_at ts i ≢ node_at ts j
