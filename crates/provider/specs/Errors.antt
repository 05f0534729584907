-- What is printed of a refusal.
use Rattle.std.specs.Prelude.{ℕ, List, codes}
use Rattle.provider.specs.declared.ProviderError.{ProviderError}
use Rattle.provider.specs.declared.ProviderError.TheVariants.{Wrong, Full}

abbrev pub message_of : ProviderError → List ℕ
message_of Wrong = codes "the provider calls a making wrong"
message_of Full = codes "the provider is full"
