-- What a provider means: the values that its handles stand for, the makings that fit, and what each call answers.
use Rattle.std.specs.Prelude.{◌≡◌, ℕ, Bool, true, false, cond, ◌&&◌, List, [], ◌∷◌, is_some, Some, None, Ok, Err, Option, Result, MatchResult, ◌==◌, ◌≢◌, nat_le}
use Rattle.provider.specs.declared.Making.{Making}
use Rattle.provider.specs.declared.Making.TheVariants.{Atom, Join, Left, Right, Seal, Open, Digest, Entry, Mate}
use Rattle.provider.specs.declared.ProviderError.{ProviderError}
use Rattle.provider.specs.declared.ProviderError.TheVariants.{Wrong, Full}
use Rattle.provider.specs.Algebra.{Algebra, last_kind, last_id}

-- the issued handles with their values, and the makings that fit
pub record Meaning (X : Type 0) : Type 0 where
  pub issued : List (ℕ × X)
  pub fits : Making → Bool

-- the value that a handle stands for; None where it was never issued
abbrev pub stands : {X : Type 0} → List (ℕ × X) → ℕ → Option X
stands [] h = None
stands (p ∷ ps) h = cond (p.0 == h) (Some p.1) (stands ps h)

-- what f makes of a value that is there
abbrev pub on : {X Y : Type 0} → Option X → (X → Option Y) → Option Y
on None f = None
on (Some x) f = f x

abbrev pub is_atom : ℕ → ℕ → Bool
is_atom kind id = nat_le kind last_kind && nat_le id last_id

-- the value that a making makes; None where it is wrong
abbrev pub made : {X : Type 0} → Algebra X → List (ℕ × X) → Making → Option X
made f is (Atom kind id) = cond (is_atom kind id) (Some (f.atom kind id)) None
made f is (Join a b) = on (stands is a) (λ x. on (stands is b) (λ y. Some (f.join x y)))
made f is (Left a) = on (stands is a) f.left
made f is (Right a) = on (stands is a) f.right
made f is (Seal c k) = on (stands is c) (λ x. on (stands is k) (f.seal x))
made f is (Open s o) = on (stands is s) (λ x. on (stands is o) (f.opens x))
made f is (Digest d t) = on (stands is d) (λ x. on (stands is t) (f.digest x))
made f is (Entry t p) = on (stands is t) (λ x. on (stands is p) (f.entry x))
made f is (Mate k) = on (stands is k) f.mate

-- every handle issued before stands for its value still
abbrev pub Kept : {X : Type 0} → List (ℕ × X) → List (ℕ × X) → Type 0
Kept {X} is is' = (h : ℕ) (x : X) → stands is h ≡ Some x → stands is' h ≡ Some x

-- Wrong comes first, then Full exactly where the making does not fit
abbrev pub Verdict : Bool → Bool → Result ℕ ProviderError → Type 0
Verdict right fits (Ok h) = (right ≡ true) × (fits ≡ true)
Verdict right fits (Err Wrong) = right ≡ false
Verdict right fits (Err Full) = (right ≡ true) × (fits ≡ false)

-- What a making answers, in the state s before it and s' after it: a handle for the value made, or a refusal that alters nothing.
pub record Answers {S X : Type 0} (f : Algebra X) (meaning : S → Meaning X) (s : S) (m : Making) (r : Result ℕ ProviderError) (s' : S) : Type 0 where
  pub verdict : Verdict (is_some (made f (meaning s).issued m)) ((meaning s).fits m) r
  pub answer : MatchResult r (λ h. stands (meaning s').issued h ≡ made f (meaning s).issued m) (λ _. s' ≡ s)
  pub kept : Kept (meaning s).issued (meaning s').issued

-- yes exactly for two issued handles that stand for one value
abbrev pub Same : {X : Type 0} → List (ℕ × X) → ℕ → ℕ → Bool → Type 0
Same {X} is a b true = (x : X) × (stands is a ≡ Some x) × (stands is b ≡ Some x)
Same {X} is a b false = (x : X) → stands is a ≡ Some x → stands is b ≢ Some x

-- a making that is wrong does not fit
abbrev pub Unfit : {X : Type 0} → Algebra X → Meaning X → Type 0
Unfit f m = (k : Making) → is_some (made f m.issued k) ≡ false → m.fits k ≡ false

-- every handle stands for a value of which P holds
abbrev pub Holds : {X : Type 0} → (X → Type 0) → Meaning X → Type 0
Holds {X} P m = (h : ℕ) (x : X) → stands m.issued h ≡ Some x → P x
