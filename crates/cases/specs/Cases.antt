-- The cases, on the public definitions of what is derived, of what calls answer and do, and of what bytes are sealed to.
use Rattle.std.specs.Prelude.{◌≡◌, true, false, List, [], ◌∷◌, Some, None}
use Rattle.deduction.specs.Term.{party, number, shared, table, pair, sealed, name}
use Rattle.deduction.specs.Theorems.{OpenerCases}
use Rattle.rules.specs.Script.{GIVEN, FRESH, SEND, line}
use Rattle.rules.specs.State.{State, blank, nth, perform, Call, NAME, BUILD, KNOW, STEP, CAN, Unmakeable, Told, named, formed, known, stepped, asked, refused}
use Rattle.rules.specs.Theorems.{after}
use Rattle.byte_provider.specs.Example.{SealedExample}

-- what calls answer, one after the other
abbrev pub answers : State → List Call → List Told
answers st [] = []
answers st (c ∷ cs) = (perform st c).told ∷ answers (perform st c).state cs

-- Parties 0 and 1, a number 2, a shared key 3. The first party knows the second's name. In one step it sends the number sealed under the
-- key, in a later one the key; whether the listener and the receiver can build the number is asked after each.
abbrev pub late_key_calls : List Call
late_key_calls =
    NAME 0 ∷ NAME 0 ∷ NAME 1 ∷ NAME 2 ∷ BUILD 1 2 3 ∷ KNOW 1 1
    ∷ STEP 1 2 4 ∷ CAN 0 2 ∷ CAN 2 2
    ∷ STEP 1 2 3 ∷ CAN 0 2 ∷ CAN 2 2 ∷ []

-- before the key comes neither can, afterwards both can
abbrev pub LateKey : Type 0
LateKey =
    answers blank late_key_calls
    ≡ named party 0 ∷ named party 1 ∷ named number 2 ∷ named shared 3 ∷ formed sealed 2 3 4 ∷ known 1 1
    ∷ stepped 1 2 4 0 ∷ asked 0 2 false ∷ asked 2 2 false
    ∷ stepped 1 2 3 1 ∷ asked 0 2 true ∷ asked 2 2 true ∷ []

-- Parties 0 and 1, a number 2, a table 3, which nobody has. The first party, which knows the second's name, is to send the pair of number
-- and table, and then the number alone.
abbrev pub refused_step_calls : List Call
refused_step_calls = NAME 0 ∷ NAME 0 ∷ NAME 1 ∷ NAME 4 ∷ BUILD 0 2 3 ∷ KNOW 1 1 ∷ STEP 1 2 4 ∷ STEP 1 2 2 ∷ []

-- the first step is refused for want of the table; in the second the number is fresh all the same
pub record StillFresh : Type 0 where
  pub answered :
      answers blank refused_step_calls
      ≡ named party 0 ∷ named party 1 ∷ named number 2 ∷ named table 3 ∷ formed pair 2 3 4 ∷ known 1 1
      ∷ refused (STEP 1 2 4) (Unmakeable 3) ∷ stepped 1 2 2 0 ∷ []
  pub sender :
      nth (after blank refused_step_calls).scripts 1
      ≡ Some (line (GIVEN (name party 0)) (Some (name party 0)) ∷ line (GIVEN (name party 1)) (Some (name party 1))
      ∷ line (FRESH (name number 2)) (Some (name number 2)) ∷ line (SEND 2 1) None ∷ [])

pub record KnownCases : Type 0 where
  -- K and M sealed under K derive M; a public K does not open what it sealed, but what its mate sealed; T and A open what their entry's
  -- mate sealed
  pub openers : OpenerCases
  pub late_key : LateKey
  pub still_fresh : StillFresh
  -- bytes 250 255 sealed under 2 0 7 are 250 6
  pub bytes : SealedExample
