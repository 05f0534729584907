-- Terms as trees, keys and their openers, well-formed terms, and the names that occur in a term.
use Rattle.std.specs.Prelude.{◌≡◌, ℕ, ◌⊎◌, List, [], ◌∷◌}
use Rattle.std.proofs.Math.Decide.{ℕ_discrete}

-- the kinds of names, numbered from 0 in this order
pub data Kind : Type 0 where
  party number shared public table function : Kind
  deriving Discrete as Kind-discrete

-- the two-part forms: pair (left, right), sealed (content, key), digest (function, term), entry (table, party)
pub data Form : Type 0 where
  pair sealed digest entry : Form
  deriving Discrete as Form-discrete

-- a name has a kind and an identity; a mate is the private counterpart of the key inside
pub data Term : Type 0 where
  name : Kind → ℕ → Term
  built : Form → Term → Term → Term
  mate : Term → Term
  deriving Discrete as Term-discrete

-- equality of terms is decidable
abbrev pub term_decision : (a b : Term) → Dec (a ≡ b)
term_decision = Term-discrete Kind-discrete ℕ_discrete Form-discrete

-- names of these kinds are keys
abbrev pub KeyKind : Kind → Type 0
KeyKind party = ⊥
KeyKind number = ⊥
KeyKind shared = Unit {0}
KeyKind public = Unit {0}
KeyKind table = ⊥
KeyKind function = ⊥

-- of the two-part forms only the entry is a key
abbrev pub KeyForm : Form → Type 0
KeyForm pair = ⊥
KeyForm sealed = ⊥
KeyForm digest = ⊥
KeyForm entry = Unit {0}

-- a key is a shared key, a public key, an entry or a mate
abbrev pub Key : Term → Type 0
Key (name k i) = KeyKind k
Key (built f a b) = KeyForm f
Key (mate k) = Unit {0}

-- a shared key is its own mate
abbrev pub mate_of_name : Kind → ℕ → Term
mate_of_name party i = mate (name party i)
mate_of_name number i = mate (name number i)
mate_of_name shared i = name shared i
mate_of_name public i = mate (name public i)
mate_of_name table i = mate (name table i)
mate_of_name function i = mate (name function i)

-- the mate of a key: of a shared key that key, of a mate the key inside (of terms that are no keys it is of no concern)
abbrev pub mate_of : Term → Term
mate_of (name k i) = mate_of_name k i
mate_of (built f a b) = mate (built f a b)
mate_of (mate k) = k

-- what a key seals is opened with the key's mate
abbrev pub opener : Term → Term
opener k = mate_of k

-- the term is a name of the kind
abbrev pub Named : Kind → Term → Type 0
Named k (name k' i) = k' ≡ k
Named k (built f a b) = ⊥
Named k (mate e) = ⊥

-- the two parts are such as the form asks for
abbrev pub PartsFit : Form → Term → Term → Type 0
PartsFit pair a b = Unit {0}
PartsFit sealed c k = Key k
PartsFit digest f t = Named function f
PartsFit entry t p = Named table t × Named party p

-- a public key or an entry: the keys on which a mate is built
abbrev pub Asymmetric : Term → Type 0
Asymmetric (name k i) = k ≡ public
Asymmetric (built f a b) = KeyForm f
Asymmetric (mate k) = ⊥

-- well-formed: every form has parts that fit, and every mate is of a public key or an entry
abbrev pub Formed : Term → Type 0
Formed (name k i) = Unit {0}
Formed (built f a b) = Formed a × Formed b × PartsFit f a b
Formed (mate k) = Formed k × Asymmetric k

-- the name of this kind and identity stands in the term, at some depth
abbrev pub Occurs : Kind → ℕ → Term → Type 0
Occurs k i (name k' j) = (k ≡ k') × (i ≡ j)
Occurs k i (built f a b) = Occurs k i a ⊎ Occurs k i b
Occurs k i (mate e) = Occurs k i e

-- the list has the member
abbrev pub In : {A : Type 0} → A → List A → Type 0
In x [] = ⊥
In x (y ∷ ys) = (y ≡ x) ⊎ In x ys

-- being a member of the list
abbrev pub among : {A : Type 0} → List A → A → Type 0
among xs x = In x xs
