-- The laws of a provider, for terms.
use Rattle.std.specs.Prelude.{◌≡◌, Bool, true, false, length, is_some, Some, refl}
use Rattle.std.proofs.Common.{ap, ◌∙◌}
use Rattle.std.proofs.lemmas.Bool.{false≢true}
use Rattle.deduction.specs.Term.{party, number, shared, public, table, function, pair, sealed, digest, entry, Term, name, built, mate, mate_of, Formed, Asymmetric}
use Rattle.deduction.specs.Decide.{is_key}
use Rattle.provider.specs.Algebra.{Key as KeyValue, shared as of-shared, public as of-public, listed as of_entry, mated as of-mate, Mates}
use Rattle.provider.specs.Meaning.{Holds}
use Rattle.terms.proofs.Formed.{formed}
use Rattle.terms.proofs.Listed.{orderly}
use Rattle.symbolic_provider.specs.declared.store.SymbolicProvider.{SymbolicProvider}
use Rattle.symbolic_provider.specs.State.{nodes_of, meaning_of}
use Rattle.symbolic_provider.specs.Values.{term_algebra, when, mate_if}
use Rattle.symbolic_provider.specs.Issued.{below}

-- every handle stands for a well-formed term
pub holds : (s : SymbolicProvider) → Holds Formed (meaning_of s)
holds s h t e =
    let p = below (nodes_of s) (length (nodes_of s)) h t e in
    let f : Formed _ = formed (nodes_of s) (orderly s.terms) h p.0 in
    rw p.1 at f

-- a key's mate is a well-formed key, whose mate is the key
record Mated (k : Term) : Type 0 where
  well : Formed (mate_of k)
  key : is_key (mate_of k) ≡ true
  back : mate_of (mate_of k) ≡ k

asymmetric : (e : Term) → Formed e → Asymmetric e → (is_key e ≡ true) × (mate_of e ≡ mate e)
asymmetric (name k i) f a = rw a (refl, refl)
asymmetric (built pair x y) f a = absurd a
asymmetric (built sealed x y) f a = absurd a
asymmetric (built digest x y) f a = absurd a
asymmetric (built entry x y) f a = (refl, refl)
asymmetric (mate e) f a = absurd a

no_key : {Z : Type 0} → false ≡ true → Z
no_key e = absurd (false≢true e)

key_mated : (k : Term) → Formed k → is_key k ≡ true → Mated k
key_mated (name party i) f e = no_key e
key_mated (name number i) f e = no_key e
key_mated (name shared i) f e = record { well = tt; key = refl; back = refl }
key_mated (name public i) f e = record { well = (tt, refl); key = refl; back = refl }
key_mated (name table i) f e = no_key e
key_mated (name function i) f e = no_key e
key_mated (built pair a b) f e = no_key e
key_mated (built sealed a b) f e = no_key e
key_mated (built digest a b) f e = no_key e
key_mated (built entry a b) f e = record { well = (f, tt); key = refl; back = refl }
key_mated (mate k) f e = let a = asymmetric k f.0 f.1 in record { well = f.0; key = a.0; back = a.1 }

some_when : (b : Bool) (x m : Term) → when b x ≡ Some m → (b ≡ true) × (m ≡ x)
some_when true x m e = (refl, cc)
some_when false x m e = no_key (ap is_some e)

-- the keys of a provider are well-formed keys here
key_value : (k : Term) → KeyValue Formed term_algebra k → Formed k × (is_key k ≡ true)
key_value k (of-shared i h) = (tt, refl)
key_value k (of-public i h) = (tt, refl)
key_value k (of_entry i j e p q r) = let d : built entry (name table i) (name party j) ≡ k = cc in rw (← d) ((tt, tt, (refl, refl)), refl)
key_value k (of-mate c m v r) =
    let p = key_value c v in
    let q = some_when (is_key c) (mate_of c) k r in
    let t = key_mated c p.0 p.1 in
    rw q.1 (t.well, t.key)

pub mates : Mates Formed term_algebra
mates = record {
  never_wrong = λ k v. ap (λ b. is_some (when b (mate_of k))) (key_value k v).1;
  shared_same = λ i h. refl;
  back = λ k m f e.
      let q = some_when (is_key k) (mate_of k) m e in
      let t = key_mated k f q.0 in
      ap mate_if q.1 ∙ ap (λ b. when b (mate_of (mate_of k))) t.key ∙ ap Some t.back;
}
