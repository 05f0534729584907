-- What reading a value into a lent slice does.
use Rattle.std.specs.Prelude.{◌≡◌, ℕ, ◌<◌, ◌≤◌, List, ◌++◌, length, drop, Some, None, Ok, Err, Option, Result}
use Rattle.byte_provider.specs.declared.store.ReadError.{ReadError}
use Rattle.byte_provider.specs.declared.store.ReadError.TheVariants.{Unissued, Short}

-- the value stands at the front of the slice, whose rest is as before; nothing is written into one that is too short
abbrev pub ReadsValue : List ℕ → List ℕ → Result ℕ ReadError → List ℕ → Type 0
ReadsValue x out (Ok n) out' = (n ≡ length x) × (n ≤ length out) × (out' ≡ x ++ drop n out)
ReadsValue x out (Err Short) out' = (length out < length x) × (out' ≡ out)
ReadsValue x out (Err Unissued) out' = ⊥

-- a handle that stands for nothing gives nothing
abbrev pub Reads : Option (List ℕ) → List ℕ → Result ℕ ReadError → List ℕ → Type 0
Reads None out r out' = (r ≡ Err Unissued) × (out' ≡ out)
Reads (Some x) out r out' = ReadsValue x out r out'
