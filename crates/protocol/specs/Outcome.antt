-- What each call answers and does: what the rules say of it.
use Rattle.std.specs.Prelude.{◌≡◌, ℕ, Bool, Ok, Err, Result}
use Rattle.rules.specs.State.{State, Call as RuleCall, NAME, BUILD, KNOW, STEP, CAN, Told, named, formed, mated, known, stepped, asked, refused, perform}
use Rattle.protocol.specs.declared.call.Call.{Call}
use Rattle.protocol.specs.declared.call.Call.TheVariants.{Name, Build, Know, Step, CanBuild}
use Rattle.protocol.specs.declared.call.Reply.{Reply}
use Rattle.protocol.specs.declared.call.Reply.TheVariants.{Number, Done, Said}
use Rattle.protocol.specs.declared.refusal.Refusal.{Refusal}
use Rattle.protocol.specs.Refusals.{refusal_of}

-- the call as the rules have it
abbrev pub call_of : Call → RuleCall
call_of (Name k) = NAME k
call_of (Build f a b) = BUILD f a b
call_of (Know p n) = KNOW p n
call_of (Step a b n) = STEP a b n
call_of (CanBuild p n) = CAN p n

-- the answer that the rules tell
abbrev pub answer_of : Told → Result Reply Refusal
answer_of (named k n) = Ok (Number n)
answer_of (formed f a b n) = Ok (Number n)
answer_of (mated a n) = Ok (Number n)
answer_of (known p n) = Ok Done
answer_of (stepped a b n l) = Ok (Number l)
answer_of (asked p n b) = Ok (Said b)
answer_of (refused c r) = Err (refusal_of r)

-- results as answers
abbrev pub number : Result ℕ Refusal → Result Reply Refusal
number (Ok n) = Ok (Number n)
number (Err e) = Err e

abbrev pub done : Result (Unit {0}) Refusal → Result Reply Refusal
done (Ok u) = Ok Done
done (Err e) = Err e

abbrev pub said : Result Bool Refusal → Result Reply Refusal
said (Ok b) = Ok (Said b)
said (Err e) = Err e

-- the call in the state st is answered a and leaves the state st', as the rules say
pub record Performed (st : State) (c : RuleCall) (a : Result Reply Refusal) (st' : State) : Type 0 where
  pub answer : a ≡ answer_of (perform st c).told
  pub after : st' ≡ (perform st c).state

-- a refused call alters nothing
abbrev pub Unaltered : {A X : Type 0} → Result A Refusal → X → X → Type 0
Unaltered (Ok a) x y = Unit {0}
Unaltered (Err e) x y = y ≡ x
