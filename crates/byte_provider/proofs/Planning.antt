-- Each plan writes the value of its making.
use Rattle.std.proofs.Common.{◌≡◌, ℕ, ◌+◌, ◌-◌, ◌*◌, ◌<◌, ◌≤◌, Bool, true, false, cond, leb, List, [], ◌∷◌, length, take, drop, is_some, Some, None, sym, refl, ap, ◌∙◌, ap₂, ⊎_elim, arith, drop-drop, leb-true}
use mathlib.Core.Bool.{false≢true}
use Rattle.std.specs.Prelude.{slice_get}
use Rattle.std.proofs.lemmas.Bool.{cases_lt}
use Rattle.std.proofs.lemmas.Option.{slice_get_past, slice_get-get_or}
use Rattle.bounded.specs.Items.{items}
use Rattle.byte_provider.specs.Issued.{stands_in, stands_out}
use Rattle.provider.specs.declared.Making.TheVariants.{Left, Right}
use Rattle.byte_provider.specs.declared.store.ByteProvider.{ByteProvider}
use Rattle.byte_provider.specs.declared.span.Span.{Span}
use Rattle.byte_provider.specs.declared.plan.KeyType.{KeyType}
use Rattle.byte_provider.specs.declared.plan.Plan.TheVariants.{Part}
use Rattle.byte_provider.specs.Held.{part, no_span}
use Rattle.byte_provider.specs.Planned.{IsKey, Lies, Located, PlanFor}
use Rattle.byte_provider.specs.State.{bytes_of, count_of}
use Rattle.byte_provider.specs.Values.{left_size, key_type}
use Rattle.byte_provider.specs.Parts.{length_part, part_part, part_rest}

-- a handle lies where its place among the spans says
pub located : (s : ByteProvider) (h : ℕ) → Located s h (slice_get (items s.spans) h)
located s h =
    let xs = bytes_of s in
    let spans = items s.spans in
    ⊎_elim
    (λ (l : h < count_of s).
    rw (slice_get-get_or spans h no_span l) (record { value = stands_in xs spans (count_of s) h l; within = s.within h no_span l }))
    (λ (g : count_of s ≤ h). rw (slice_get_past spans h g) (stands_out xs spans (count_of s) h g))
    (cases_lt h (count_of s))

-- a left part is no longer than what follows the two length bytes
left_fits : (x : List ℕ) (n : ℕ) → Some n ≡ left_size x → 2 + n ≤ length x
left_fits [] n e = absurd (false≢true (ap is_some (sym e)))
left_fits (h ∷ []) n e = absurd (false≢true (ap is_some (sym e)))
left_fits (h ∷ l ∷ rest) n e = at (leb (h * 256 + l) (length rest)) refl e
  where
    at : (t : Bool) → leb (h * 256 + l) (length rest) ≡ t → Some n ≡ cond t (Some (h * 256 + l)) None → 2 + n ≤ length (h ∷ l ∷ rest)
    at true b q = let v : n ≡ h * 256 + l = cc in let k = leb-true (h * 256 + l) (length rest) b in omega (arith, v, k)
    at false b q = absurd (false≢true (ap is_some (sym q)))

-- a key has two bytes or more
key_fits : (x : List ℕ) (t : KeyType) → Some t ≡ key_type x → 2 ≤ length x
key_fits [] t e = absurd (false≢true (ap is_some (sym e)))
key_fits (b ∷ []) t e = absurd (false≢true (ap is_some (sym e)))
key_fits (b ∷ c ∷ cs) t e = omega arith

module _ (s : ByteProvider) (a n : ℕ) (p : Span) (la : Lies s a p) (e : Some n ≡ left_size (part (bytes_of s) p)) where
  pub half_fits : 2 + n ≤ p.len
  half_fits = omega (arith, left_fits (part (bytes_of s) p) n e, length_part (bytes_of s) p la.within)

  pub left_plan : PlanFor s (Left a) (Part (record { start = p.start + 2; len = n }))
  left_plan =
      let k = half_fits in
      record {
        makes = rw (la.value, ← e) (ap Some (part_part (bytes_of s) p 2 n k));
        sound = omega (arith, k, la.within);
        adds = refl;
      }

  pub right_plan : PlanFor s (Right a) (Part (record { start = p.start + 2 + n; len = p.len - 2 - n }))
  right_plan =
      let k = half_fits in
      let x = part (bytes_of s) p in
      let d : p.start + (2 + n) ≡ p.start + 2 + n = omega arith in
      let l : p.len - (2 + n) ≡ p.len - 2 - n = omega arith in
      record {
        makes = rw (la.value, ← e) (ap Some (drop-drop n 2 x ∙ part_rest (bytes_of s) p (2 + n) la.within k ∙ ap₂ (λ i m. take m (drop i (bytes_of s))) d l));
        sound = omega (arith, k, la.within);
        adds = refl;
      }

-- a key that lies in a span
module _ (s : ByteProvider) (k : ℕ) (q b : Span) (t : KeyType) (lk : Lies s k q) (e : Some t ≡ key_type (part (bytes_of s) q)) (eb : b ≡ record { start = q.start + 1; len = q.len - 1 }) where
  pub key_len : 2 ≤ q.len
  key_len = omega (arith, key_fits (part (bytes_of s) q) t e, length_part (bytes_of s) q lk.within)

  pub is_key : IsKey s k t b
  is_key =
      let h = key_len in
      record {
        value = part (bytes_of s) q;
        is = lk.value;
        kind = sym e;
        rest = part_rest (bytes_of s) q 1 lk.within (omega (arith, h)) ∙ ap (part (bytes_of s)) (sym eb);
        within = rw eb (omega (arith, h, lk.within));
        some = rw eb (omega (arith, h));
      }
