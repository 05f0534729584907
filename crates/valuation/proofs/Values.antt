-- The values of terms: a well-formed term has one, and the value of a key's mate is the mate of the key's value.
use Rattle.std.proofs.Common.{◌≡◌, ℕ, ◌≤◌, Bool, true, false, cond, leb, Some, None, Option, sym, refl, ap, ◌∙◌, subst, ap₂, inl, inr}
use Rattle.std.proofs.lemmas.Bool.{leb-true, le-leb}
use Rattle.deduction.specs.Term.{Kind, party, number, shared, public, table, function, Form, pair, sealed, digest, entry, Term, name, built, mate, KeyKind, Key, mate_of_name, mate_of, Named, PartsFit, Asymmetric, Formed, Occurs}
use Rattle.provider.specs.Algebra.{Algebra, last_id, shared as shared_atom, public as public-atom, listed, mated, Key as ValueKey}
use Rattle.provider.specs.Meaning.{on, is_atom}
use Rattle.provider.proofs.Steps.{is_some}
use Rattle.valuation.specs.Value.{code, form_value, value, HasValue}
use Rattle.valuation.specs.Law.{Lawful, FormedHasValue}

-- the names in a term have ids up to 65,535
abbrev Small : Term → Type 0
Small t = (k : Kind) (i : ℕ) → Occurs k i t → i ≤ last_id

-- the keys on which mates are built are keys
asymmetric_key : (t : Term) → Asymmetric t → Key t
asymmetric_key (name k i) e = subst KeyKind (sym e) tt
asymmetric_key (built f a b) e = e
asymmetric_key (mate k) e = tt

is_atom_small : (k : Kind) (i : ℕ) → i ≤ last_id → is_atom (code k) i ≡ true
is_atom_small party i h = le-leb i last_id h
is_atom_small number i h = le-leb i last_id h
is_atom_small shared i h = le-leb i last_id h
is_atom_small public i h = le-leb i last_id h
is_atom_small table i h = le-leb i last_id h
is_atom_small function i h = le-leb i last_id h

pub on_some : {X Y : Type 0} {o : Option X} {x : X} (g : X → Option Y) → o ≡ Some x → on o g ≡ g x
on_some g e = rw e refl

module _ {X : Type 0} {P : X → Type 0} {f : Algebra X} (law : Lawful P f) where
  -- a value, which is a key where the term is one
  abbrev KeyedValue : Term → Type 0
  KeyedValue t = (x : X) × (value f t ≡ Some x) × (Key t → ValueKey P f x)

  name_value : (k : Kind) (i : ℕ) → i ≤ last_id → value f (name k i) ≡ Some (f.atom (code k) i)
  name_value k i h = rw (is_atom_small k i h) refl

  name_key : (k : Kind) (i : ℕ) → i ≤ last_id → KeyKind k → ValueKey P f (f.atom (code k) i)
  name_key party i h e = absurd e
  name_key number i h e = absurd e
  name_key shared i h e = shared_atom i h
  name_key public i h e = public-atom i h
  name_key table i h e = absurd e
  name_key function i h e = absurd e

  -- a name of a known kind is the atom of that kind
  named_value : (k : Kind) (a : Term) (x : X) → Small a → Named k a → value f a ≡ Some x → (i : ℕ) × (i ≤ last_id) × (f.atom (code k) i ≡ x)
  named_value k (name k' i) x h e p =
      let l = h k' i (refl, refl) in
      let v = name_value k' i l in
      let q : f.atom (code k) i ≡ x = cc in
      (i, l, q)
  named_value k (built g a b) x h e p = absurd e
  named_value k (mate t) x h e p = absurd e

  parts_value : (a b : Term) {x y : X} (g : Form) → value f a ≡ Some x → value f b ≡ Some y → value f (built g a b) ≡ form_value f g x y
  parts_value a b g p q = rw (p, q) refl

  built_value : (g : Form) (a b : Term) → Small a → Small b → PartsFit g a b → KeyedValue a → KeyedValue b → KeyedValue (built g a b)
  built_value pair a b ha hb e u v = (f.join u.0 v.0, parts_value a b pair u.1 v.1, λ z. absurd z)
  built_value sealed a b ha hb e u v =
      let w = is_some _ (law.seals.never_wrong u.0 v.0 (law.mates.never_wrong v.0 (v.2 e))) in
      (w.0, parts_value a b sealed u.1 v.1 ∙ w.1, λ z. absurd z)
  built_value digest a b ha hb e u v =
      let n = named_value function a u.0 ha e u.1 in
      let w = is_some _ (law.builds.digest n.0 v.0 n.1) in
      (w.0, parts_value a b digest u.1 v.1 ∙ ap (λ z. f.digest z v.0) (sym n.2) ∙ w.1, λ z. absurd z)
  built_value entry a b ha hb e u v =
      let n = named_value table a u.0 ha e.0 u.1 in
      let m = named_value party b v.0 hb e.1 v.1 in
      let w = is_some _ (law.builds.entry n.0 m.0 n.1 m.1) in
      (w.0, parts_value a b entry u.1 v.1 ∙ ap₂ f.entry (sym n.2) (sym m.2) ∙ w.1, λ z. listed n.0 m.0 w.0 n.1 m.1 w.1)

  keyed_value : (t : Term) → Formed t → Small t → KeyedValue t
  keyed_value (name k i) w h = let l = h k i (refl, refl) in (f.atom (code k) i, name_value k i l, name_key k i l)
  keyed_value (built g a b) w h =
      let ha : Small a = (λ k i o. h k i (inl o)) in
      let hb : Small b = (λ k i o. h k i (inr o)) in
      built_value g a b ha hb w.2 (keyed_value a w.0 ha) (keyed_value b w.1 hb)
  keyed_value (mate k) w h =
      let u = keyed_value k w.0 h in
      let key = u.2 (asymmetric_key k w.1) in
      let m = is_some _ (law.mates.never_wrong u.0 key) in
      (m.0, on_some f.mate u.1 ∙ m.1, λ z. mated u.0 m.0 key m.1)

  pub formed_has_value : FormedHasValue f
  formed_has_value t w h = let v = keyed_value t w h in (v.0, v.1, λ e. law.mates.never_wrong v.0 (v.2 e))

  shared_mate : (i : ℕ) (b : Bool) → leb i last_id ≡ b → cond b (Some (f.atom 2 i)) None ≡ on (cond b (Some (f.atom 2 i)) None) f.mate
  shared_mate i true e = sym (law.mates.shared_same i (leb-true i last_id e))
  shared_mate i false e = refl

  name_mate : (k : Kind) (i : ℕ) → KeyKind k → value f (mate_of_name k i) ≡ on (value f (name k i)) f.mate
  name_mate party i e = absurd e
  name_mate number i e = absurd e
  name_mate shared i e = shared_mate i (leb i last_id) refl
  name_mate public i e = refl
  name_mate table i e = absurd e
  name_mate function i e = absurd e

  -- The value of a key's mate is the mate of the key's value: a shared key is its own mate, the mate of a public key or of an
  -- entry is so by definition, and the mate of a mate is the key, whose value is one of which P holds.
  pub mate_value : (k : Term) → Key k → HasValue P f k → HasValue P f (mate_of k) → value f (mate_of k) ≡ on (value f k) f.mate
  mate_value (name k i) e u v = name_mate k i e
  mate_value (built g a b) e u v = refl
  mate_value (mate k) e u v =
      let m : f.mate v.0 ≡ Some u.0 = sym (on_some f.mate v.1) ∙ u.1 in
      v.1 ∙ sym (on_some f.mate u.1 ∙ law.mates.back v.0 u.0 v.2 m)
