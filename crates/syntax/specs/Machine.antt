-- A machine that reads the tokens of a line one by one.
use Rattle.std.specs.Prelude.{◌≡◌, ℕ, Bool, true, false, cond, List, [], ◌∷◌, ◌+◌, length}
use Rattle.syntax.specs.Grammar.{Tok, sign}
use Rattle.syntax.specs.declared.sign.Sign.{Sign}
use Rattle.syntax.specs.declared.sign.Sign.TheVariants as signs
use Rattle.scan.specs.declared.byte.Shape.{Shape}
use Rattle.scan.specs.declared.byte.Shape.TheVariants.{Round, Curly, Square, Angle}
use Rattle.syntax.specs.declared.sign.Keyword.{Keyword}
use Rattle.syntax.specs.declared.sign.Keyword.TheVariants as words
use Rattle.syntax.specs.declared.mode.Frame.{Frame}
use Rattle.syntax.specs.declared.mode.Frame.TheVariants.{First, Later, Content, Digested}
use Rattle.syntax.specs.declared.mode.NameUse.{NameUse}
use Rattle.syntax.specs.declared.mode.NameUse.TheVariants as uses
use Rattle.syntax.specs.declared.mode.Mode.{Mode}
use Rattle.syntax.specs.declared.mode.Mode.TheVariants.{Fresh, Kinded, Listing, Owner, Sender, Receiver, Start, AfterName, AfterSealer, AfterKey, After, Sealer, Party, EntryEnd, Done}

pub data State : Type 0 where
  at : Mode → List Frame → State
  stuck : State

abbrev pub same_shape : Shape → Shape → Bool
same_shape Round Round = true
same_shape Round Curly = false
same_shape Round Square = false
same_shape Round Angle = false
same_shape Curly Round = false
same_shape Curly Curly = true
same_shape Curly Square = false
same_shape Curly Angle = false
same_shape Square Round = false
same_shape Square Curly = false
same_shape Square Square = true
same_shape Square Angle = false
same_shape Angle Round = false
same_shape Angle Curly = false
same_shape Angle Square = false
same_shape Angle Angle = true

-- whether a token is of a sort
abbrev pub is_name : Sign → Bool
is_name signs.Name = true
is_name (signs.Keyword k) = false
is_name (signs.Opens s) = false
is_name (signs.Closes s) = false
is_name signs.Tick = false
is_name signs.End = false
is_name signs.Stray = false

abbrev pub is_opens : Shape → Sign → Bool
is_opens s signs.Name = false
is_opens s (signs.Keyword k) = false
is_opens s (signs.Opens t) = same_shape s t
is_opens s (signs.Closes t) = false
is_opens s signs.Tick = false
is_opens s signs.End = false
is_opens s signs.Stray = false

abbrev pub is_closes : Shape → Sign → Bool
is_closes s signs.Name = false
is_closes s (signs.Keyword k) = false
is_closes s (signs.Opens t) = false
is_closes s (signs.Closes t) = same_shape s t
is_closes s signs.Tick = false
is_closes s signs.End = false
is_closes s signs.Stray = false

abbrev pub is_tick : Sign → Bool
is_tick signs.Name = false
is_tick (signs.Keyword k) = false
is_tick (signs.Opens t) = false
is_tick (signs.Closes t) = false
is_tick signs.Tick = true
is_tick signs.End = false
is_tick signs.Stray = false

abbrev pub is_end : Sign → Bool
is_end signs.Name = false
is_end (signs.Keyword k) = false
is_end (signs.Opens t) = false
is_end (signs.Closes t) = false
is_end signs.Tick = false
is_end signs.End = true
is_end signs.Stray = false

-- the state x at such a token, and y at any other
abbrev pub if_name : Sign → State → State → State
if_name t x y = cond (is_name t) x y

abbrev pub if_opens : Shape → Sign → State → State → State
if_opens s t x y = cond (is_opens s t) x y

abbrev pub if_closes : Shape → Sign → State → State → State
if_closes s t x y = cond (is_closes s t) x y

abbrev pub if_tick : Sign → State → State → State
if_tick t x y = cond (is_tick t) x y

abbrev pub if_end : Sign → State → State → State
if_end t x y = cond (is_end t) x y

-- the first token of a line
abbrev pub headed : Keyword → State
headed (words.Kind k) = at Kinded []
headed words.Own = at Owner []
headed words.Line = at Sender []

abbrev pub heads : Sign → State
heads signs.Name = stuck
heads (signs.Keyword k) = headed k
heads (signs.Opens s) = stuck
heads (signs.Closes s) = stuck
heads signs.Tick = stuck
heads signs.End = at Done []
heads signs.Stray = stuck

-- the first token of a term
abbrev pub begins : List Frame → Sign → State
begins fs t =
    if_name t (at AfterName fs)
    (if_opens Round t (at Start (First ∷ fs))
    (if_opens Curly t (at Start (Content ∷ fs)) stuck))

-- the token after a whole term
abbrev pub follows : List Frame → Sign → State
follows [] t = if_end t (at Done []) stuck
follows (First ∷ fs) t = begins (Later ∷ fs) t
follows (Later ∷ fs) t = if_closes Round t (at After fs) (begins (Later ∷ fs) t)
follows (Content ∷ fs) t = if_closes Curly t (at Sealer fs) stuck
follows (Digested ∷ fs) t = if_closes Angle t (at After fs) stuck

abbrev pub step : Mode → List Frame → Sign → State
step Fresh fs t = heads t
step Kinded fs t = if_name t (at Listing []) stuck
step Listing fs t = if_name t (at Listing []) (if_end t (at Done []) stuck)
step Owner fs t = if_name t (at Start []) stuck
step Sender fs t = if_name t (at Receiver []) stuck
step Receiver fs t = if_name t (at Start []) stuck
step Start fs t = begins fs t
step AfterName fs t =
    if_opens Square t (at Party fs)
    (if_opens Angle t (at Start (Digested ∷ fs)) (if_tick t (at AfterKey fs) (follows fs t)))
step AfterSealer fs t = if_opens Square t (at Party fs) (if_tick t (at AfterKey fs) (follows fs t))
step AfterKey fs t = if_tick t (at AfterKey fs) (follows fs t)
step After fs t = follows fs t
step Sealer fs t = if_name t (at AfterSealer fs) stuck
step Party fs t = if_name t (at EntryEnd fs) stuck
step EntryEnd fs t = if_closes Square t (at AfterKey fs) stuck
step Done fs t = stuck

-- the square bracket of an entry is open in these
abbrev pub within_entry : Mode → ℕ
within_entry Fresh = 0
within_entry Kinded = 0
within_entry Listing = 0
within_entry Owner = 0
within_entry Sender = 0
within_entry Receiver = 0
within_entry Start = 0
within_entry AfterName = 0
within_entry AfterSealer = 0
within_entry AfterKey = 0
within_entry After = 0
within_entry Sealer = 0
within_entry Party = 1
within_entry EntryEnd = 1
within_entry Done = 0

-- what a name that is due is for
abbrev pub use_in : Mode → NameUse
use_in Fresh = uses.Part
use_in Kinded = uses.Declared
use_in Listing = uses.Declared
use_in Owner = uses.Agent
use_in Sender = uses.Agent
use_in Receiver = uses.Agent
use_in Start = uses.Part
use_in AfterName = uses.Part
use_in AfterSealer = uses.Part
use_in AfterKey = uses.Part
use_in After = uses.Part
use_in Sealer = uses.Part
use_in Party = uses.Part
use_in EntryEnd = uses.Part
use_in Done = uses.Part

-- no token of the line is due
abbrev pub is_done : Mode → Bool
is_done Fresh = false
is_done Kinded = false
is_done Listing = false
is_done Owner = false
is_done Sender = false
is_done Receiver = false
is_done Start = false
is_done AfterName = false
is_done AfterSealer = false
is_done AfterKey = false
is_done After = false
is_done Sealer = false
is_done Party = false
is_done EntryEnd = false
is_done Done = true

-- the brackets open in a state
abbrev pub depth : State → ℕ
depth (at m fs) = length fs + within_entry m
depth stuck = 0

abbrev pub run : State → List Tok → State
run s [] = s
run (at m fs) (t ∷ ts) = run (step m fs (sign t)) ts
run stuck (t ∷ ts) = stuck

abbrev pub Runs : List Tok → Type 0
Runs ts = (m : Mode) × (fs : List Frame) × (run (at Fresh []) ts ≡ at m fs)
