-- The history of a list of calls with their answers, and what it says of them.
use Rattle.std.specs.Prelude.{◌≡◌, ℕ, ◌<◌, ◌≤◌, Bool, true, false, cond, List, [], ◌∷◌, length, take, drop, Ok, Err, Result, ◌==◌}
use Rattle.deduction.specs.Term.{Kind, party, Form, pair}
use Rattle.rules.specs.State.{Refusal as RuleRefusal, Told, named, formed, mated, known, stepped, asked, refused, kind_of, form_of, with}
use Rattle.rules.specs.State as rules
use Rattle.rules.specs.History.{History, Came, AnsweredRight}
use Rattle.rules.specs.Theorems.{MissingTold}
use Rattle.acting.specs.declared.refusal.SessionRefusal.{SessionRefusal}
use Rattle.acting.specs.declared.refusal.SessionRefusal.TheVariants.{NoMemory}
use Rattle.protocol.specs.declared.call.Call.{Call}
use Rattle.protocol.specs.declared.call.Call.TheVariants.{Name, Build, Know, Step, CanBuild}
use Rattle.protocol.specs.declared.call.Reply.{Reply}
use Rattle.protocol.specs.declared.call.Reply.TheVariants.{Number, Done, Said}
use Rattle.protocol.specs.declared.protocol.Protocol.{Protocol}
use Rattle.protocol.specs.declared.refusal.Refusal.{Refusal}
use Rattle.protocol.specs.declared.refusal.Refusal.TheVariants.{Unknown, WrongKind, NoRoom, EighthParty, TooLate, NoTwoParties, LastStep, NoAddress, Unmakeable, ScriptFull}
use Rattle.protocol.specs.View.{view_of}

-- a refusal as the rules have it
abbrev pub rule_refusal : Refusal → RuleRefusal
rule_refusal Unknown = rules.Unknown
rule_refusal WrongKind = rules.WrongKind
rule_refusal NoRoom = rules.NoRoom
rule_refusal EighthParty = rules.EighthParty
rule_refusal TooLate = rules.TooLate
rule_refusal NoTwoParties = rules.NoTwoParties
rule_refusal LastStep = rules.LastStep
rule_refusal NoAddress = rules.NoAddress
rule_refusal (Unmakeable t) = rules.Unmakeable t
rule_refusal (ScriptFull p) = rules.ScriptFull p

-- kinds and forms by number (of other numbers of no concern: these are refused)
abbrev pub kind_at : ℕ → Kind
kind_at k = with (kind_of k) party (λ x. x)

abbrev pub form_at : ℕ → Form
form_at f = with (form_of f) pair (λ x. x)

-- a granted building: form 4 is the mate
abbrev pub built_by : ℕ → ℕ → ℕ → ℕ → Told
built_by f a b n = cond (f == 4) (mated a n) (formed (form_at f) a b n)

-- A call with its answer, as the rules tell it. An answer that does not suit its call is told as what no such call tells, so that a
-- history with one cannot have come about.
abbrev pub told_by : Call → Result Reply Refusal → Told
told_by (Name k) (Ok (Number n)) = named (kind_at k) n
told_by (Name k) (Ok Done) = known 0 0
told_by (Name k) (Ok (Said b)) = asked 0 0 b
told_by (Name k) (Err r) = refused (rules.NAME k) (rule_refusal r)
told_by (Build f a b) (Ok (Number n)) = built_by f a b n
told_by (Build f a b) (Ok Done) = known 0 0
told_by (Build f a b) (Ok (Said y)) = asked 0 0 y
told_by (Build f a b) (Err r) = refused (rules.BUILD f a b) (rule_refusal r)
told_by (Know p t) (Ok (Number n)) = stepped 0 0 0 n
told_by (Know p t) (Ok Done) = known p t
told_by (Know p t) (Ok (Said b)) = asked 0 0 b
told_by (Know p t) (Err r) = refused (rules.KNOW p t) (rule_refusal r)
told_by (Step a b t) (Ok (Number n)) = stepped a b t n
told_by (Step a b t) (Ok Done) = known 0 0
told_by (Step a b t) (Ok (Said y)) = asked 0 0 y
told_by (Step a b t) (Err r) = refused (rules.STEP a b t) (rule_refusal r)
told_by (CanBuild p t) (Ok (Number n)) = stepped 0 0 0 n
told_by (CanBuild p t) (Ok Done) = known 0 0
told_by (CanBuild p t) (Ok (Said b)) = asked p t b
told_by (CanBuild p t) (Err r) = refused (rules.CAN p t) (rule_refusal r)

-- the history of calls with their answers, after an earlier one; the newest comes first
abbrev pub history_after : History → List Call → List (Result Reply Refusal) → History
history_after past [] rs = past
history_after past (c ∷ cs) [] = past
history_after past (c ∷ cs) (r ∷ rs) = history_after (told_by c r ∷ past) cs rs

abbrev pub history_of : List Call → List (Result Reply Refusal) → History
history_of cs rs = history_after [] cs rs

-- Every answer is right by the calls before it: a step is refused as unmakeable exactly when its sender cannot build the message, past the
-- earlier tests, with a missing term that it cannot build; and can-build says yes exactly when the agent can.
abbrev pub AllRight : History → Type 0
AllRight [] = Unit {0}
AllRight (d ∷ past) = (AnsweredRight past d × MissingTold past d) × AllRight past

-- the calls were made from blank: the answers stand at the front of the list, the protocol is what came of them, every answer is right,
-- and the rest of the list is as it was
pub record Performs (calls : List Call) (answers : List (Result Reply Refusal)) (p' : Protocol) (answers' : List (Result Reply Refusal)) : Type 0 where
  pub came : Came (history_of calls (take (length calls) answers')) (view_of p')
  pub right : AllRight (history_of calls (take (length calls) answers'))
  pub rest : drop (length calls) answers' ≡ drop (length calls) answers
  pub long : length answers' ≡ length answers

-- they are made exactly if there is an answer for each, else nothing is altered
abbrev pub PerformsIf : Protocol → List Call → List (Result Reply Refusal) → Result (Unit {0}) SessionRefusal → Protocol → List (Result Reply Refusal) → Type 0
PerformsIf p calls answers (Ok u) p' answers' = (length calls ≤ length answers) × Performs calls answers p' answers'
PerformsIf p calls answers (Err e) p' answers' = (e ≡ NoMemory) × (length answers < length calls) × (p' ≡ p) × (answers' ≡ answers)
