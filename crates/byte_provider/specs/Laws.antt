-- The laws of a provider, for strings of bytes.
use Rattle.std.specs.Prelude.{◌≡◌, ℕ, zero, suc, ◌+◌, ◌*◌, ◌/◌, ◌%◌, ◌<◌, ◌≤◌, Bool, true, false, cond, List, [], ◌∷◌, ◌++◌, length, is_some, Some, None, Option, ◌==◌, nat_le, slice_index, slice_index_or, refl}
use Rattle.std.proofs.Common.{sym, ap, ap₂, ◌∙◌, arith, length-append, length-take, take_at, drop_at, eqb-true, le-leb}
use Rattle.std.proofs.lemmas.Bool.{false≢true}
use Rattle.bounded.specs.Items.{items}
use Rattle.provider.specs.Algebra.{Halves, Key, shared, public, listed, mated, Mates, Seals}
use Rattle.provider.specs.Meaning.{on, Holds}
use Rattle.byte_provider.specs.declared.store.ByteProvider.{ByteProvider}
use Rattle.byte_provider.specs.declared.plan.KeyType.{KeyType}
use Rattle.byte_provider.specs.declared.plan.KeyType.TheVariants.{Shared, Public, Private}
use Rattle.byte_provider.specs.declared.plan.Shift.{Shift}
use Rattle.byte_provider.specs.declared.plan.Shift.TheVariants.{Add, Subtract}
use Rattle.byte_provider.specs.Held.{part, no_span}
use Rattle.byte_provider.specs.State.{bytes_of, meaning_of}
use Rattle.byte_provider.specs.Values.{Bytes, join_of, left_of, right_of, type_of, key_type, shift, shifted, sealing, opening, mate_first, mate_of, seal_of, open_of, byte_algebra}
use Rattle.byte_provider.specs.Parts.{length_part}
use Rattle.byte_provider.specs.Small.{small_part}
use Rattle.byte_provider.specs.Issued.{below, stands_in}

none_some : {X Z : Type 0} {x : X} → None ≡ Some x → Z
none_some e = absurd (false≢true (ap is_some e))

part_left : (a b : List ℕ) → left_of (join_of a b) ≡ Some a
part_left a b =
    let n : (length a / 256) * 256 + length a % 256 ≡ length a = omega arith in
    let l : nat_le (length a) (length (a ++ b)) ≡ true = le-leb (length a) (length (a ++ b)) (omega (arith, length-append a b)) in
    rw (n, l) (ap Some (take_at a b (length a) refl))

part_right : (a b : List ℕ) → right_of (join_of a b) ≡ Some b
part_right a b =
    let n : (length a / 256) * 256 + length a % 256 ≡ length a = omega arith in
    let l : nat_le (length a) (length (a ++ b)) ≡ true = le-leb (length a) (length (a ++ b)) (omega (arith, length-append a b)) in
    rw (n, l) (ap Some (drop_at a b (length a) refl))

pub halves : Halves Bytes byte_algebra
halves = record { left = λ a b p q. part_left a b; right = λ a b p q. part_right a b }

abbrev first : KeyType → ℕ
first Shared = 2
first Public = 3
first Private = 6

first_is : (b : ℕ) (t : KeyType) → type_of b ≡ Some t → b ≡ first t
first_is b t e = by (b == 2) (b == 3) (b == 6) refl refl refl e
  where
    by : (p q r : Bool) → (b == 2) ≡ p → (b == 3) ≡ q → (b == 6) ≡ r → cond p (Some Shared) (cond q (Some Public) (cond r (Some Private) None)) ≡ Some t → b ≡ first t
    by true q r ep eq er h = let k : Shared ≡ t = cc in eqb-true b 2 ep ∙ ap first k
    by false true r ep eq er h = let k : Public ≡ t = cc in eqb-true b 3 eq ∙ ap first k
    by false false true ep eq er h = let k : Private ≡ t = cc in eqb-true b 6 er ∙ ap first k
    by false false false ep eq er h = none_some h

-- a key and its mate: their types and their common body
record Mated (k m : List ℕ) : Type 0 where
  kind : KeyType
  head : ℕ
  tail : List ℕ
  key : k ≡ first kind ∷ head ∷ tail
  other : m ≡ mate_first kind ∷ head ∷ tail

mated_at : (b c : ℕ) (cs m : List ℕ) (o : Option KeyType) → type_of b ≡ o → on o (λ t. Some (mate_first t ∷ c ∷ cs)) ≡ Some m → Mated (b ∷ c ∷ cs) m
mated_at b c cs m None e h = none_some h
mated_at b c cs m (Some t) e h = record {
  kind = t;
  head = c;
  tail = cs;
  key = ap (λ v. v ∷ c ∷ cs) (first_is b t e);
  other = let q : mate_first t ∷ c ∷ cs ≡ m = cc in sym q;
}

has_mate : (k m : List ℕ) → mate_of k ≡ Some m → Mated k m
has_mate [] m h = none_some h
has_mate (b ∷ []) m h = none_some h
has_mate (b ∷ c ∷ cs) m h = mated_at b c cs m (type_of b) refl h

-- what the two are to each other, by the type of the key
mate_back_at : (t : KeyType) (c : ℕ) (cs : List ℕ) → mate_of (mate_first t ∷ c ∷ cs) ≡ Some (first t ∷ c ∷ cs)
mate_back_at Shared c cs = refl
mate_back_at Public c cs = refl
mate_back_at Private c cs = refl

abbrev undo : Shift → Shift
undo Add = Subtract
undo Subtract = Add

seal_at : (t : KeyType) (c : ℕ) (cs x : List ℕ) → seal_of x (first t ∷ c ∷ cs) ≡ Some (shifted (sealing t) (c ∷ cs) 0 x)
seal_at Shared c cs x = refl
seal_at Public c cs x = refl
seal_at Private c cs x = refl

open_mate_at : (t : KeyType) (c : ℕ) (cs x : List ℕ) → open_of x (mate_first t ∷ c ∷ cs) ≡ Some (shifted (undo (sealing t)) (c ∷ cs) 0 x)
open_mate_at Shared c cs x = refl
open_mate_at Public c cs x = refl
open_mate_at Private c cs x = refl

seal_mate_at : (t : KeyType) (c : ℕ) (cs x : List ℕ) → seal_of x (mate_first t ∷ c ∷ cs) ≡ Some (shifted (undo (opening t)) (c ∷ cs) 0 x)
seal_mate_at Shared c cs x = refl
seal_mate_at Public c cs x = refl
seal_mate_at Private c cs x = refl

open_at : (t : KeyType) (c : ℕ) (cs x : List ℕ) → open_of x (first t ∷ c ∷ cs) ≡ Some (shifted (opening t) (c ∷ cs) 0 x)
open_at Shared c cs x = refl
open_at Public c cs x = refl
open_at Private c cs x = refl

-- a shift undone
unshift : (w : Shift) (x b : ℕ) → x < 256 → b < 256 → shift (undo w) (shift w x b) b ≡ x
unshift Add x b h k = omega arith
unshift Subtract x b h k = omega arith

undone : (w : Shift) (bs : List ℕ) (i : ℕ) (xs : List ℕ) → ((k : ℕ) → slice_index bs k < 256) → ((k : ℕ) → slice_index xs k < 256) → shifted (undo w) bs i (shifted w bs i xs) ≡ xs
undone w bs i [] hb hx = refl
undone w bs i (x ∷ xs) hb hx = rw (unshift w x (slice_index bs (i % length bs)) (hx zero) (hb (i % length bs)), undone w bs (i + 1) xs hb (λ k. hx (suc k))) refl

redone : (w : Shift) (bs : List ℕ) (xs : List ℕ) → ((k : ℕ) → slice_index bs k < 256) → ((k : ℕ) → slice_index xs k < 256) → shifted w bs 0 (shifted (undo w) bs 0 xs) ≡ xs
redone Add bs xs hb hx = undone Subtract bs 0 xs hb hx
redone Subtract bs xs hb hx = undone Add bs 0 xs hb hx

mate_back : (k m : List ℕ) → mate_of k ≡ Some m → mate_of m ≡ Some k
mate_back k m h = let v = has_mate k m h in ap mate_of v.other ∙ mate_back_at v.kind v.head v.tail ∙ ap Some (sym v.key)

key_mate : (k : List ℕ) → Key Bytes byte_algebra k → is_some (mate_of k) ≡ true
key_mate k (shared i h) = refl
key_mate k (public i h) = refl
key_mate k (listed i j e p q r) = let d : 3 ∷ 4 ∷ (i / 256) ∷ (i % 256) ∷ 0 ∷ (j / 256) ∷ (j % 256) ∷ [] ≡ k = cc in rw (← d) refl
key_mate k (mated c m v r) = rw (mate_back c k r) refl

pub mates : Mates Bytes byte_algebra
mates = record { never_wrong = key_mate; shared_same = λ i h. refl; back = λ k m p h. mate_back k m h }

seals_where_mates : {X Y Z : Type 0} (o : Option X) (f : X → Y) (g : X → Z) → is_some (on o (λ t. Some (f t))) ≡ true → is_some (on o (λ t. Some (g t))) ≡ true
seals_where_mates None f g h = absurd (false≢true h)
seals_where_mates (Some x) f g h = refl

-- the bytes of a key's body are small
tail_small : (k : List ℕ) (b c : ℕ) (cs : List ℕ) → k ≡ b ∷ c ∷ cs → Bytes k → (j : ℕ) → slice_index (c ∷ cs) j < 256
tail_small k b c cs e p j = rw e at (p.small (suc j))

seal_mate_opens : (x k m s : List ℕ) → Bytes x → Bytes k → mate_of k ≡ Some m → seal_of x k ≡ Some s → open_of s m ≡ Some x
seal_mate_opens x k m s px pk h e =
    let v = has_mate k m h in
    let d : seal_of x k ≡ Some (shifted (sealing v.kind) (v.head ∷ v.tail) 0 x) = ap (seal_of x) v.key ∙ seal_at v.kind v.head v.tail x in
    let es : s ≡ shifted (sealing v.kind) (v.head ∷ v.tail) 0 x = cc in
    ap₂ open_of es v.other ∙ open_mate_at v.kind v.head v.tail _
    ∙ ap Some (undone (sealing v.kind) (v.head ∷ v.tail) 0 x (tail_small k _ v.head v.tail v.key pk) px.small)

mate_seal_opens : (x k m s : List ℕ) → Bytes x → Bytes k → mate_of k ≡ Some m → seal_of x m ≡ Some s → open_of s k ≡ Some x
mate_seal_opens x k m s px pk h e =
    let v = has_mate k m h in
    let d : seal_of x m ≡ Some (shifted (undo (opening v.kind)) (v.head ∷ v.tail) 0 x) = ap (seal_of x) v.other ∙ seal_mate_at v.kind v.head v.tail x in
    let es : s ≡ shifted (undo (opening v.kind)) (v.head ∷ v.tail) 0 x = cc in
    ap₂ open_of es v.key ∙ open_at v.kind v.head v.tail _
    ∙ ap Some (redone (opening v.kind) (v.head ∷ v.tail) x (tail_small k _ v.head v.tail v.key pk) px.small)

shared_atom : (i : ℕ) → i ≤ 65535 → Bytes (2 ∷ (i / 256) ∷ (i % 256) ∷ [])
shared_atom i h = record { short = omega arith; small = at }
  where
    at : (k : ℕ) → slice_index (2 ∷ (i / 256) ∷ (i % 256) ∷ []) k < 256
    at zero = omega arith
    at (suc zero) = omega arith
    at (suc (suc zero)) = omega arith
    at (suc (suc (suc k))) = omega arith

pub seals : Seals Bytes byte_algebra
seals = record {
  never_wrong = λ c k h. seals_where_mates (key_type k) _ _ h;
  with_mate = seal_mate_opens;
  with_shared = λ c s i pc h e. seal_mate_opens c (2 ∷ (i / 256) ∷ (i % 256) ∷ []) (2 ∷ (i / 256) ∷ (i % 256) ∷ []) s pc (shared_atom i h) refl e;
  with_key = mate_seal_opens;
}

-- every handle stands for bytes
pub holds : (s : ByteProvider) → Holds Bytes (meaning_of s)
holds s h x e =
    let xs = bytes_of s in
    let spans = items s.spans in
    let l = below xs spans (length spans) h x e in
    let p = slice_index_or spans h no_span in
    let q : Some (part xs p) ≡ Some x = sym (stands_in xs spans (length spans) h l) ∙ e in
    let v : part xs p ≡ x = cc in
    let t = s.table in
    record {
      short = rw (← v) (omega (arith, length_part xs p (s.within h no_span l), s.within h no_span l, length-take t.used t.bytes, t.fits));
      small = rw (← v) (small_part xs p (small_part t.bytes (record { start = 0; len = t.used }) t.small));
    }
