-- Refusals of sessions and runs, by number.
use Rattle.std.specs.Prelude.{ℕ, Some, None, Option}
use Rattle.provider.specs.declared.ProviderError.{ProviderError}
use Rattle.provider.specs.declared.ProviderError.TheVariants.{Wrong, Full}
use Rattle.acting.specs.declared.halt.Halt.{Halt}
use Rattle.acting.specs.declared.refusal.SessionRefusal.{SessionRefusal}
use Rattle.acting.specs.declared.refusal.SessionRefusal.TheVariants.{NoParty, NoMemory, NotItsTurn, ProviderFull, ProviderWrong}

-- the number of a refusal
abbrev pub number_of : SessionRefusal → ℕ
number_of NoParty = 1
number_of NoMemory = 14
number_of NotItsTurn = 11
number_of (ProviderFull n) = 12
number_of (ProviderWrong n) = 13

-- the term or instruction that it carries
abbrev pub value_of : SessionRefusal → Option ℕ
value_of NoParty = None
value_of NoMemory = None
value_of NotItsTurn = None
value_of (ProviderFull n) = Some n
value_of (ProviderWrong n) = Some n

-- the refusal of what a provider stopped
abbrev pub error_refusal : ProviderError → ℕ → SessionRefusal
error_refusal Wrong n = ProviderWrong n
error_refusal Full n = ProviderFull n

abbrev pub halt_refusal : Halt → SessionRefusal
halt_refusal h = error_refusal h.error h.at
