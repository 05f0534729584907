-- The values of the byte provider, strings of bytes, and what the makings make of them.
use Rattle.std.specs.Prelude.{ℕ, ◌+◌, ◌-◌, ◌*◌, ◌/◌, ◌%◌, ◌<◌, ◌≤◌, cond, List, [], ◌∷◌, ◌++◌, length, take, drop, Some, None, Option, ◌==◌, nat_le, slice_index, sum}
use Rattle.provider.specs.Algebra.{Algebra}
use Rattle.provider.specs.Meaning.{on}
use Rattle.byte_provider.specs.declared.plan.KeyType.{KeyType}
use Rattle.byte_provider.specs.declared.plan.KeyType.TheVariants.{Shared, Public, Private}
use Rattle.byte_provider.specs.declared.plan.Shift.{Shift}
use Rattle.byte_provider.specs.declared.plan.Shift.TheVariants.{Add, Subtract}

-- at most 32,768 bytes, each below 256
pub record Bytes (xs : List ℕ) : Type 0 where
  pub short : length xs ≤ 32768
  pub small : (k : ℕ) → slice_index xs k < 256

-- kind and two id bytes, high first
abbrev pub atom_of : ℕ → ℕ → List ℕ
atom_of kind id = kind ∷ (id / 256) ∷ (id % 256) ∷ []

-- two length bytes of the left part, high first, then both parts
abbrev pub join_of : List ℕ → List ℕ → List ℕ
join_of a b = (length a / 256) ∷ (length a % 256) ∷ (a ++ b)

-- how long the left part is; None where the value is too short to have one
abbrev pub left_size : List ℕ → Option ℕ
left_size [] = None
left_size (h ∷ []) = None
left_size (h ∷ l ∷ rest) = cond (nat_le (h * 256 + l) (length rest)) (Some (h * 256 + l)) None

abbrev pub left_of : List ℕ → Option (List ℕ)
left_of x = on (left_size x) (λ n. Some (take n (drop 2 x)))

abbrev pub right_of : List ℕ → Option (List ℕ)
right_of x = on (left_size x) (λ n. Some (drop n (drop 2 x)))

-- the type of a key by its first byte; None where the value is no key
abbrev pub type_of : ℕ → Option KeyType
type_of b = cond (b == 2) (Some Shared) (cond (b == 3) (Some Public) (cond (b == 6) (Some Private) None))

abbrev pub key_type : List ℕ → Option KeyType
key_type [] = None
key_type (b ∷ []) = None
key_type (b ∷ c ∷ cs) = type_of b

-- a byte with another added to it or taken from it, modulo 256
abbrev pub shift : Shift → ℕ → ℕ → ℕ
shift Add x b = (x + b) % 256
shift Subtract x b = (x + (256 - b)) % 256

-- each byte shifted by the body's, which begins anew where it ends; i counts the bytes before
abbrev pub shifted : Shift → List ℕ → ℕ → List ℕ → List ℕ
shifted w body i [] = []
shifted w body i (x ∷ xs) = shift w x (slice_index body (i % length body)) ∷ shifted w body (i + 1) xs

abbrev pub sealing : KeyType → Shift
sealing Shared = Add
sealing Public = Add
sealing Private = Subtract

abbrev pub opening : KeyType → Shift
opening Shared = Subtract
opening Public = Add
opening Private = Subtract

abbrev pub mate_first : KeyType → ℕ
mate_first Shared = 2
mate_first Public = 6
mate_first Private = 3

-- the body of a key is all but its first byte
abbrev pub body : List ℕ → List ℕ
body k = drop 1 k

abbrev pub mate_of : List ℕ → Option (List ℕ)
mate_of k = on (key_type k) (λ t. Some (mate_first t ∷ body k))

abbrev pub seal_of : List ℕ → List ℕ → Option (List ℕ)
seal_of c k = on (key_type k) (λ t. Some (shifted (sealing t) (body k) 0 c))

abbrev pub open_of : List ℕ → List ℕ → Option (List ℕ)
open_of s o = on (key_type o) (λ t. Some (shifted (opening t) (body o) 0 s))

-- one byte: the sum of all bytes of both
abbrev pub digest_of : List ℕ → List ℕ → List ℕ
digest_of f t = ((sum f + sum t) % 256) ∷ []

-- byte 3, then the table's bytes and the party's
abbrev pub entry_of : List ℕ → List ℕ → List ℕ
entry_of t p = 3 ∷ (t ++ p)

abbrev pub byte_algebra : Algebra (List ℕ)
byte_algebra = record {
  atom = atom_of;
  join = join_of;
  left = left_of;
  right = right_of;
  seal = seal_of;
  opens = open_of;
  digest = λ f t. Some (digest_of f t);
  entry = λ t p. Some (entry_of t p);
  mate = mate_of;
}
