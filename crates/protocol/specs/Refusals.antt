-- Refusals by number, and as the rules have them.
use Rattle.std.specs.Prelude.{ℕ, Some, None, Option}
use Rattle.rules.specs.State.{Refusal as RuleRefusal}
use Rattle.rules.specs.State as rules
use Rattle.terms.specs.declared.node.TermError.{TermError}
use Rattle.terms.specs.declared.node.TermError.TheVariants.{Unknown as NoTerm, WrongKind as WrongPart, Full}
use Rattle.protocol.specs.declared.refusal.Refusal.{Refusal}
use Rattle.protocol.specs.declared.refusal.Refusal.TheVariants.{Unknown, WrongKind, NoRoom, EighthParty, TooLate, NoTwoParties, LastStep, NoAddress, Unmakeable, ScriptFull}

-- the number of a refusal
abbrev pub number_of : Refusal → ℕ
number_of Unknown = 1
number_of WrongKind = 2
number_of NoRoom = 3
number_of EighthParty = 4
number_of TooLate = 5
number_of NoTwoParties = 6
number_of LastStep = 7
number_of NoAddress = 8
number_of (Unmakeable t) = 9
number_of (ScriptFull p) = 10

-- the value that it carries: the missing term, or the agent
abbrev pub value_of : Refusal → Option ℕ
value_of Unknown = None
value_of WrongKind = None
value_of NoRoom = None
value_of EighthParty = None
value_of TooLate = None
value_of NoTwoParties = None
value_of LastStep = None
value_of NoAddress = None
value_of (Unmakeable t) = Some t
value_of (ScriptFull p) = Some p

-- the refusal that the rules give
abbrev pub refusal_of : RuleRefusal → Refusal
refusal_of rules.Unknown = Unknown
refusal_of rules.WrongKind = WrongKind
refusal_of rules.NoRoom = NoRoom
refusal_of rules.EighthParty = EighthParty
refusal_of rules.TooLate = TooLate
refusal_of rules.NoTwoParties = NoTwoParties
refusal_of rules.LastStep = LastStep
refusal_of rules.NoAddress = NoAddress
refusal_of (rules.Unmakeable t) = Unmakeable t
refusal_of (rules.ScriptFull p) = ScriptFull p

-- why the protocol refuses a term that its table refuses
abbrev pub refused_as : TermError → Refusal
refused_as NoTerm = Unknown
refused_as WrongPart = WrongKind
refused_as Full = NoRoom
