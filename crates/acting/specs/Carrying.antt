-- What the instructions of a script ask of a provider.
use Rattle.std.specs.Prelude.{ℕ, ◌+◌, ◌-◌, min, List, length, take, drop, Some, None, Option, Result, slice_index}
use Rattle.provider.specs.declared.Making.TheVariants.{Join as JOINING, Left as LEFT-OF, Right as RIGHT-OF, Seal as SEALING, Open as OPENING, Digest as DIGEST-OF, Entry as ENTRY-OF, Mate as MATE-OF}
use Rattle.provider.specs.Algebra.{Algebra}
use Rattle.provider.specs.Meaning.{Meaning}
use Rattle.scripts.specs.declared.instruction.Instruction.{Instruction}
use Rattle.scripts.specs.declared.instruction.Instruction.TheVariants.{Given, Fresh, From, To, Recv, Mate, Left, Right, Join, Seal, Digest, Entry, Open, Same, Send}
use Rattle.scripts.specs.declared.instruction.Line.{Line}
use Rattle.acting.specs.declared.instruction.Part.{Part}
use Rattle.acting.specs.declared.instruction.Part.TheVariants.{Start, Send as SENDING, Receive}
use Rattle.acting.specs.declared.halt.Halt.{Halt}
use Rattle.acting.specs.Acts.{Act, put, make, compare, wrong, Acting}

-- the handles that a part is handed: of the sender's name, and of the message
abbrev pub sender_of : Part → Option ℕ
sender_of Start = None
sender_of SENDING = None
sender_of (Receive from message) = Some from

abbrev pub message_of : Part → Option ℕ
message_of Start = None
message_of SENDING = None
message_of (Receive from message) = Some message

-- what is handed is put, and without it there is nothing to do
abbrev pub putting : Option ℕ → Act
putting None = wrong
putting (Some h) = put h

-- what an instruction asks, over the readings and over the slots from base on
abbrev pub op_act : List ℕ → Part → ℕ → List ℕ → Instruction → Act
op_act readings part base slots (Given t) = put (slice_index readings t)
op_act readings part base slots (Fresh t) = put (slice_index readings t)
op_act readings part base slots (From t) = putting (sender_of part)
op_act readings part base slots (To t) = wrong
op_act readings part base slots (Recv t) = putting (message_of part)
op_act readings part base slots (Mate a) = make (MATE-OF (slice_index slots (base + a)))
op_act readings part base slots (Left a) = make (LEFT-OF (slice_index slots (base + a)))
op_act readings part base slots (Right a) = make (RIGHT-OF (slice_index slots (base + a)))
op_act readings part base slots (Join a b) = make (JOINING (slice_index slots (base + a)) (slice_index slots (base + b)))
op_act readings part base slots (Seal a b) = make (SEALING (slice_index slots (base + a)) (slice_index slots (base + b)))
op_act readings part base slots (Digest a b) = make (DIGEST-OF (slice_index slots (base + a)) (slice_index slots (base + b)))
op_act readings part base slots (Entry a b) = make (ENTRY-OF (slice_index slots (base + a)) (slice_index slots (base + b)))
op_act readings part base slots (Open a b) = make (OPENING (slice_index slots (base + a)) (slice_index slots (base + b)))
op_act readings part base slots (Same a b) = compare (slice_index slots (base + a)) (slice_index slots (base + b))
op_act readings part base slots (Send a b) = put (slice_index slots (base + a))

-- how many comparisons an instruction is
abbrev pub tally : Instruction → ℕ
tally (Given t) = 0
tally (Fresh t) = 0
tally (From t) = 0
tally (To t) = 0
tally (Recv t) = 0
tally (Mate a) = 0
tally (Left a) = 0
tally (Right a) = 0
tally (Join a b) = 0
tally (Seal a b) = 0
tally (Digest a b) = 0
tally (Entry a b) = 0
tally (Open a b) = 0
tally (Same a b) = 1
tally (Send a b) = 0

-- the lines from start up to end, or up to the last
abbrev pub between : {A : Type 0} → ℕ → ℕ → List A → List A
between start end ls = drop start (take end ls)

abbrev pub line_act : List ℕ → Part → ℕ → List ℕ → ℕ → Line → Act
line_act readings part base slots k l = op_act readings part base slots l.op

abbrev pub line_tally : Line → ℕ
line_tally l = tally l.op

-- the slot k of a session whose slots begin at base
abbrev pub slot_from : ℕ → ℕ → ℕ
slot_from base k = base + k

-- Carrying out the lines from start up to end, whole: as far as the script and the slots go, each handle is put into its line's slot,
-- and what is answered is the number of comparisons, or the line at which it was stopped, and by what.
abbrev pub CarriedOut : {S X : Type 0} → Algebra X → (S → Meaning X) → List ℕ → Part → ℕ → List Line → ℕ → ℕ → S → List ℕ → Result ℕ Halt → S → List ℕ → Type 0
CarriedOut f m readings part base ls start end s slots r s' slots' =
    Acting f m (line_act readings part base) line_tally (slot_from base) (between start (min end (length slots - base)) ls) start 0 s slots r s' slots'
