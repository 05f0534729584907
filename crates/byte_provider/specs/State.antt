-- What the byte provider means.
use Rattle.std.specs.Prelude.{ℕ, zero, suc, ◌-◌, Bool, false, ◌&&◌, List, [], ◌∷◌, length, Some, None, Option, nat_le, nat_lt, slice_index_or}
use Rattle.bounded.specs.Items.{items}
use Rattle.provider.specs.declared.Making.{Making}
use Rattle.provider.specs.declared.Making.TheVariants.{Atom, Join, Left, Right, Seal, Open, Digest, Entry, Mate}
use Rattle.provider.specs.Meaning.{Meaning, made}
use Rattle.byte_provider.specs.declared.store.ByteProvider.{ByteProvider}
use Rattle.byte_provider.specs.declared.span.Span.{Span}
use Rattle.byte_provider.specs.declared.plan.Plan.{Plan}
use Rattle.byte_provider.specs.Held.{held, part, no_span}
use Rattle.byte_provider.specs.Plans.{added}
use Rattle.byte_provider.specs.Values.{byte_algebra}

-- the bytes in use
abbrev pub bytes_of : ByteProvider → List ℕ
bytes_of s = held s.table

-- the handles below n with their values, the newest first
abbrev pub issued_below : List ℕ → List Span → ℕ → List (ℕ × List ℕ)
issued_below xs spans zero = []
issued_below xs spans (suc n) = (n, part xs (slice_index_or spans n no_span)) ∷ issued_below xs spans n

-- how many handles are issued
abbrev pub count_of : ByteProvider → ℕ
count_of s = length (items s.spans)

abbrev pub issued_of : ByteProvider → List (ℕ × List ℕ)
issued_of s = issued_below (bytes_of s) (items s.spans) (count_of s)

-- the bytes that a making takes for the value that it makes: halves stay where they are
abbrev pub stored : Making → List ℕ → List ℕ
stored (Atom k i) x = x
stored (Join a b) x = x
stored (Left a) x = []
stored (Right a) x = []
stored (Seal c k) x = x
stored (Open s o) x = x
stored (Digest f t) x = x
stored (Entry t p) x = x
stored (Mate k) x = x

-- a handle and n bytes are free
abbrev pub free : ByteProvider → ℕ → Bool
free s n = nat_lt (count_of s) 4096 && nat_le n (32768 - length (bytes_of s))

-- room for the value that a making makes; none for what is wrong
abbrev pub room : ByteProvider → Making → Option (List ℕ) → Bool
room s m None = false
room s m (Some x) = free s (length (stored m x))

-- room for what a plan adds
abbrev pub has_room : ByteProvider → Plan → Bool
has_room s plan = free s (length (added (bytes_of s) plan))

abbrev pub made_of : ByteProvider → Making → Option (List ℕ)
made_of s m = made byte_algebra (issued_of s) m

abbrev pub fits_of : ByteProvider → Making → Bool
fits_of s m = room s m (made_of s m)

abbrev pub meaning_of : ByteProvider → Meaning (List ℕ)
meaning_of s = record { issued = issued_of s; fits = fits_of s }
