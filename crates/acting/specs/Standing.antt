-- What handles stand for after loading, and after carrying out a part of a fitting script.
use Rattle.std.specs.Prelude.{◌≡◌, ℕ, ◌+◌, ◌<◌, ◌≤◌, false, ◌⊎◌, List, length, Some, Option, Result, MatchResult, slice_index}
use Rattle.deduction.specs.Term.{Term, In}
use Rattle.provider.specs.declared.Making.{Making}
use Rattle.provider.specs.declared.ProviderError.TheVariants.{Full}
use Rattle.provider.specs.Algebra.{Algebra}
use Rattle.provider.specs.Meaning.{Meaning, stands, Kept}
use Rattle.rules.specs.State.{nth}
use Rattle.terms.specs.declared.node.Kind.{Kind}
use Rattle.terms.specs.declared.node.TermNode.{TermNode}
use Rattle.terms.specs.declared.node.TermNode.TheVariants.{Name}
use Rattle.terms.specs.Tree.{tree}
use Rattle.scripts.specs.declared.instruction.Instruction.{Instruction}
use Rattle.scripts.specs.declared.instruction.Instruction.TheVariants.{Given, Fresh, From, To, Recv, Mate, Left, Right, Join, Seal, Digest, Entry, Open, Same, Send}
use Rattle.scripts.specs.declared.instruction.Line.{Line}
use Rattle.scripts.specs.Lines.{script_of}
use Rattle.scripts.specs.Composing.{AllNamed}
use Rattle.valuation.specs.Value.{value}
use Rattle.valuation.specs.Fit.{at, terms_of, Fits, Settled}
use Rattle.acting.specs.declared.instruction.Part.{Part}
use Rattle.acting.specs.declared.halt.Halt.{Halt}
use Rattle.acting.specs.Acts.{Act, make, total}
use Rattle.acting.specs.Carrying.{sender_of, message_of, line_act, line_tally, between}
use Rattle.acting.specs.Loading.{node_act}

-- the handle is issued, and stands for the value of the term
abbrev pub StandsFor : {X : Type 0} → Algebra X → List (ℕ × X) → ℕ → Term → Type 0
StandsFor {X} f is h t = (x : X) × (stands is h ≡ Some x) × (value f t ≡ Some x)

-- the readings of the first n terms stand for their values, where T says what term a number stands for
abbrev pub Loaded : {X : Type 0} → Algebra X → List (ℕ × X) → (ℕ → Term) → ℕ → List ℕ → Type 0
Loaded f is T n readings = (t : ℕ) → t < n → StandsFor f is (slice_index readings t) (T t)

-- the first n slots from base on stand for the values of their terms
abbrev pub Standing : {X : Type 0} → Algebra X → List (ℕ × X) → List Term → ℕ → List ℕ → ℕ → Type 0
Standing f is ts base slots n = (k : ℕ) → k < n → StandsFor f is (slice_index slots (base + k)) (at ts k)

-- Stopped for want of room: the item of the named number asks, with the handles as they are, for a making that does not fit in the
-- provider as it is.
pub record NoRoom {S X I : Type 0} (m : S → Meaning X) (act : List ℕ → ℕ → I → Act) (all : List I) (s : S) (hs : List ℕ) (h : Halt) : Type 0 where
  pub full : h.error ≡ Full
  pub item : I
  pub making : Making
  pub named : nth all h.at ≡ Some item
  pub asked : act hs h.at item ≡ make making
  pub unfit : (m s).fits making ≡ false

-- What is kept whatever is done from place low up to place high: what handles stand for, all other places, and their number.
pub record KeptOutside {S X : Type 0} (m : S → Meaning X) (low high : ℕ) (s : S) (hs : List ℕ) (s' : S) (hs' : List ℕ) : Type 0 where
  pub kept : Kept (m s).issued (m s').issued
  pub outside : (j : ℕ) → (j < low) ⊎ (high ≤ j) → slice_index hs' j ≡ slice_index hs j
  pub long : length hs' ≡ length hs

-- at most 512 are counted, and what is named as stopped has a number from low up to high
abbrev pub Bounded : ℕ → ℕ → Result ℕ Halt → Type 0
Bounded low high r = MatchResult r (λ n. n ≤ 512) (λ h. (low ≤ h.at) × (h.at < high))

-- names carry their own numbers
abbrev pub OwnNumbers : List TermNode → Type 0
OwnNumbers ts = (i : ℕ) (k : Kind) (n : ℕ) → nth ts i ≡ Some (Name k n) → n ≡ i

-- Loading terms whose names carry their own numbers, with a reading for each: all readings stand for their terms' values, or it is
-- stopped by Full alone, where the named term's making does not fit, and the readings before it stand for their terms' values.
abbrev pub LoadStands : {S X : Type 0} → Algebra X → (S → Meaning X) → List TermNode → List ℕ → Result ℕ Halt → S → List ℕ → Type 0
LoadStands f m ts readings r s' readings' =
    OwnNumbers ts → length ts ≤ length readings
    → MatchResult r
    (λ n. (n ≡ length ts) × Loaded f (m s').issued (tree ts) (length ts) readings')
    (λ h. (h.at < length ts) × NoRoom m node_act ts s' readings' h × Loaded f (m s').issued (tree ts) h.at readings')

-- every one of the terms has a number below n
abbrev pub Numbered : List Term → (ℕ → Term) → ℕ → Type 0
Numbered terms T n = (t : Term) → In t terms → (i : ℕ) × (i < n) × (T i ≡ t)

-- what is handed stands for the value of the term
abbrev pub Brings : {X : Type 0} → Algebra X → List (ℕ × X) → Option ℕ → Term → Type 0
Brings f is o t = (h : ℕ) × (o ≡ Some h) × StandsFor f is h t

-- An instruction finds what its part is to hand it: FROM and RECV the handles of their terms. TO has no place in a session.
abbrev pub Handed : {X : Type 0} → Algebra X → List (ℕ × X) → (ℕ → Term) → Part → Instruction → Type 0
Handed f is T part (Given t) = Unit {0}
Handed f is T part (Fresh t) = Unit {0}
Handed f is T part (From t) = Brings f is (sender_of part) (T t)
Handed f is T part (To t) = ⊥
Handed f is T part (Recv t) = Brings f is (message_of part) (T t)
Handed f is T part (Mate a) = Unit {0}
Handed f is T part (Left a) = Unit {0}
Handed f is T part (Right a) = Unit {0}
Handed f is T part (Join a b) = Unit {0}
Handed f is T part (Seal a b) = Unit {0}
Handed f is T part (Digest a b) = Unit {0}
Handed f is T part (Entry a b) = Unit {0}
Handed f is T part (Open a b) = Unit {0}
Handed f is T part (Same a b) = Unit {0}
Handed f is T part (Send a b) = Unit {0}

-- the instruction needs nothing handed to it, so it can be carried out in every part
abbrev pub Alone : Instruction → Type 0
Alone (Given t) = Unit {0}
Alone (Fresh t) = Unit {0}
Alone (From t) = ⊥
Alone (To t) = ⊥
Alone (Recv t) = ⊥
Alone (Mate a) = Unit {0}
Alone (Left a) = Unit {0}
Alone (Right a) = Unit {0}
Alone (Join a b) = Unit {0}
Alone (Seal a b) = Unit {0}
Alone (Digest a b) = Unit {0}
Alone (Entry a b) = Unit {0}
Alone (Open a b) = Unit {0}
Alone (Same a b) = Unit {0}
Alone (Send a b) = Unit {0}

-- every line from start up to end finds what it is handed
abbrev pub AllHanded : {X : Type 0} → Algebra X → List (ℕ × X) → (ℕ → Term) → Part → List Line → ℕ → ℕ → Type 0
AllHanded f is T part ls start end = (k : ℕ) (l : Line) → start ≤ k → k < end → nth ls k ≡ Some l → Handed f is T part l.op

-- how many comparisons the lines are
abbrev pub comparisons : List Line → ℕ
comparisons ls = total line_tally ls

-- A part of a script that can be carried out in the state s with these slots: there are lines and slots up to its end, every term
-- has a reading that stands for its value, so has every slot before the part, and the part is handed what its lines name.
pub record Ready {X : Type 0} (f : Algebra X) (is : List (ℕ × X)) (T : ℕ → Term) (n : ℕ) (readings : List ℕ) (part : Part) (base : ℕ) (ls : List Line) (start end : ℕ) (slots : List ℕ) : Type 0 where
  pub begins : start ≤ end
  pub lines : end ≤ length ls
  pub room : base + end ≤ length slots
  pub loaded : Loaded f is T n readings
  pub before : Standing f is (terms_of (script_of T ls)) base slots start
  pub handed : AllHanded f is T part ls start end

-- Carrying out a part of a fitting script that is ready: every comparison is done and every slot up to the end stands for its term's
-- value, or it is stopped by Full alone, where what the named line asks for does not fit, and the slots before it stand for theirs.
abbrev pub PartStands : {S X : Type 0} → Algebra X → (S → Meaning X) → List ℕ → Part → ℕ → List Line → ℕ → ℕ → S → List ℕ → Result ℕ Halt → S → List ℕ → Type 0
PartStands f m readings part base ls start end s slots r s' slots' =
    (T : ℕ → Term) (n : ℕ) (terms : List Term)
    → Settled terms → Numbered terms T n → AllNamed n ls → Fits terms (script_of T ls)
    → Ready f (m s).issued T n readings part base ls start end slots
    → MatchResult r
    (λ c. (c ≡ comparisons (between start end ls)) × Standing f (m s').issued (terms_of (script_of T ls)) base slots' end)
    (λ h. (start ≤ h.at) × (h.at < end) × NoRoom m (line_act readings part base) ls s' slots' h × Standing f (m s').issued (terms_of (script_of T ls)) base slots' h.at)
