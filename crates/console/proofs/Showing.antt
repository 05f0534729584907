-- What the provider read is what is shown.
use Rattle.std.proofs.Common.{◌≡◌, ℕ, ◌≤◌, List, length, take, drop, Some, None, Ok, Err, Option, refl, ap, ◌∙◌, arith}
use Rattle.provider.specs.Meaning.{stands}
use Rattle.byte_provider.specs.Reads.{Reads}
use Rattle.byte_provider.specs.State.{issued_of}
use Rattle.byte_provider.specs.declared.store.ByteProvider.{ByteProvider}
use Rattle.byte_provider.specs.declared.store.ReadError.{ReadError}
use Rattle.byte_provider.specs.declared.store.ReadError.TheVariants.{Unissued, Short}
use Rattle.byte_provider.specs.Laws.{holds}
use Rattle.std.proofs.lemmas.List.{take_at}
use Rattle.console.specs.declared.answer.Answer.TheVariants.{Bytes as ShownBytes}
use Rattle.console.specs.Steps.{Shown}

pub shown_value : (o : Option (List ℕ)) (n : ℕ) (out out' : List ℕ) → Reads o out (Ok n) out' → Shown o (ShownBytes (Some n)) out'
shown_value None n out out' r = let e = r.0 in let z : ◌≡◌ {A = ℕ} 0 1 = cc in absurd (omega arith)
shown_value (Some x) n out out' r = (ap (λ k. ShownBytes (Some k)) r.0, ap (take (length x)) r.2 ∙ take_at x (drop n out) (length x) refl)

-- a value never finds the slice too short
pub shown_none : (p : ByteProvider) (h : ℕ) (out out' : List ℕ) (e : ReadError) (o : Option (List ℕ)) → stands (issued_of p) h ≡ o → 32768 ≤ length out → Reads o out (Err e) out' → Shown o (ShownBytes None) out'
shown_none p h out out' Unissued None is long r = refl
shown_none p h out out' Short None is long r = refl
shown_none p h out out' Unissued (Some x) is long r = absurd r
shown_none p h out out' Short (Some x) is long r = let b = holds p h x is in absurd (omega (arith, b.short, r.0))
