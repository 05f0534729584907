-- The values of a provider: what each making makes of them, and the laws that hold of it.
use Rattle.std.specs.Prelude.{◌≡◌, ℕ, ◌≤◌, true, is_some, Some, Option}

-- What each making makes of values; None where it is wrong for them. These are functions, so equal operands
-- give equal values at all times, or are wrong alike.
pub record Algebra (X : Type 0) : Type 0 where
  pub atom : ℕ → ℕ → X
  pub join : X → X → X
  pub left : X → Option X
  pub right : X → Option X
  pub seal : X → X → Option X
  pub opens : X → X → Option X
  pub digest : X → X → Option X
  pub entry : X → X → Option X
  pub mate : X → Option X

-- the kinds of atoms run from 0 to 5, their ids from 0 to 65,535
abbrev pub last_kind : ℕ
last_kind = 5

abbrev pub last_id : ℕ
last_id = 65535

-- The laws speak of the values that a provider can hold: those of which P holds.
module _ {X : Type 0} (P : X → Type 0) (f : Algebra X) where
  -- left and right of a join give its parts
  pub record Halves : Type 0 where
    pub left : (a b : X) → P a → P b → f.left (f.join a b) ≡ Some a
    pub right : (a b : X) → P a → P b → f.right (f.join a b) ≡ Some b

  -- the keys: shared atoms (kind 2), public atoms (kind 3), entries of a table atom (kind 4) and a party atom (kind 0), and the mates of keys
  pub data Key : X → Type 0 where
    shared : (i : ℕ) → i ≤ last_id → Key (f.atom 2 i)
    public : (i : ℕ) → i ≤ last_id → Key (f.atom 3 i)
    listed : (i j : ℕ) (e : X) → i ≤ last_id → j ≤ last_id → f.entry (f.atom 4 i) (f.atom 0 j) ≡ Some e → Key e
    mated : (k m : X) → Key k → f.mate k ≡ Some m → Key m

  -- every key has a mate; a shared atom is its own; the mate of a mate is the key
  pub record Mates : Type 0 where
    pub never_wrong : (k : X) → Key k → is_some (f.mate k) ≡ true
    pub shared_same : (i : ℕ) → i ≤ last_id → f.mate (f.atom 2 i) ≡ Some (f.atom 2 i)
    pub back : (k m : X) → P k → f.mate k ≡ Some m → f.mate m ≡ Some k

  -- What has a mate seals. A sealed value opens to its content with the key's mate, with the shared atom that sealed it,
  -- and with the key of the mate that sealed it.
  pub record Seals : Type 0 where
    pub never_wrong : (c k : X) → is_some (f.mate k) ≡ true → is_some (f.seal c k) ≡ true
    pub with_mate : (c k m s : X) → P c → P k → f.mate k ≡ Some m → f.seal c k ≡ Some s → f.opens s m ≡ Some c
    pub with_shared : (c s : X) (i : ℕ) → P c → i ≤ last_id → f.seal c (f.atom 2 i) ≡ Some s → f.opens s (f.atom 2 i) ≡ Some c
    pub with_key : (c k m s : X) → P c → P k → f.mate k ≡ Some m → f.seal c m ≡ Some s → f.opens s k ≡ Some c

  -- a digest under a function atom (kind 5) and an entry of a table atom and a party atom are never wrong
  pub record Builds : Type 0 where
    pub digest : (i : ℕ) (t : X) → i ≤ last_id → is_some (f.digest (f.atom 5 i) t) ≡ true
    pub entry : (i j : ℕ) → i ≤ last_id → j ≤ last_id → is_some (f.entry (f.atom 4 i) (f.atom 0 j)) ≡ true
