-- What each call answers, and what it leaves behind.
use Rattle.std.specs.Prelude.{◌≡◌, ℕ, Bool, List, [], length, take, Some, None, Option, Result, IsSomeAnd}
use Rattle.provider.specs.Algebra.{Algebra}
use Rattle.provider.specs.Meaning.{Answers, Meaning, Same as SameValue, stands}
use Rattle.provider.specs.declared.Making.{Making}
use Rattle.provider.specs.declared.ProviderError.{ProviderError}
use Rattle.rules.specs.State.{blank}
use Rattle.protocol.specs.declared.call.Call.{Call as ProtocolCall}
use Rattle.protocol.specs.declared.call.Reply.{Reply}
use Rattle.protocol.specs.declared.refusal.Refusal.{Refusal}
use Rattle.protocol.specs.Outcome.{Performed, call_of}
use Rattle.protocol.specs.View.{lines_of, view_of}
use Rattle.listing.specs.declared.refusal.ListingError.{ListingError}
use Rattle.listing.specs.Listing.{Lists}
use Rattle.terms.specs.declared.node.TermNode.{TermNode}
use Rattle.byte_provider.specs.Outcome.{Blank}
use Rattle.byte_provider.specs.State.{fits_of as bytes_fit, issued_of as bytes_issued, meaning_of as bytes_meaning}
use Rattle.byte_provider.specs.Values.{byte_algebra}
use Rattle.symbolic_provider.specs.Records.{Recorded}
use Rattle.symbolic_provider.specs.State.{fits_of as terms_fit, issued_of as terms_issued, meaning_of as terms_meaning}
use Rattle.symbolic_provider.specs.Values.{term_algebra}
use Rattle.console.specs.declared.answer.Answer.{Answer}
use Rattle.console.specs.declared.answer.Answer.TheVariants.{Done, Made, Said, Protocol as Asked, Listed, Bytes as ShownBytes, Term}
use Rattle.console_calls.specs.declared.call.Act.{Act}
use Rattle.console_calls.specs.declared.call.Call.{Call}
use Rattle.console_calls.specs.declared.call.Call.TheVariants.{Blank as BlankCall, Protocol, List as Listing, ChooseBytes, ChooseSymbolic, Make, Fits, Same, Show, Memory, NewSession, Act as ActCall}
use Rattle.console.specs.declared.console.Chosen.{Chosen}
use Rattle.console.specs.declared.console.Chosen.TheVariants.{Bytes, Symbolic}
use Rattle.console.specs.declared.console.Console.{Console}
use Rattle.console.specs.Workspaces.{Acts, LentIf, Opens, Blank as BlankWorkspace}

-- blank, with no provider chosen
pub record New (s : Console) : Type 0 where
  pub protocol : view_of s.protocol ≡ blank
  pub chosen : s.chosen ≡ None
  pub workspace : BlankWorkspace s.workspace

-- the protocol, and what sessions work on, are as they were
pub record KeptWork (s t : Console) : Type 0 where
  pub protocol : t.protocol ≡ s.protocol
  pub workspace : t.workspace ≡ s.workspace

-- both providers, and which one is chosen, are as they were
pub record KeptProviders (s t : Console) : Type 0 where
  pub chosen : t.chosen ≡ s.chosen
  pub bytes : t.bytes ≡ s.bytes
  pub symbolic : t.symbolic ≡ s.symbolic

-- a new byte provider is blank, whatever went before; all else is as it was
pub record ChoseBytes (s : Console) (a : Option Answer) (t : Console) : Type 0 where
  pub done : a ≡ Some Done
  pub chosen : t.chosen ≡ Some Bytes
  pub blank : Blank t.bytes
  pub symbolic : t.symbolic ≡ s.symbolic
  pub work : KeptWork s t

-- a new symbolic provider is blank, whatever went before; all else is as it was
pub record ChoseSymbolic (s : Console) (a : Option Answer) (t : Console) : Type 0 where
  pub done : a ≡ Some Done
  pub chosen : t.chosen ≡ Some Symbolic
  pub blank : terms_issued t.symbolic ≡ []
  pub bytes : t.bytes ≡ s.bytes
  pub work : KeptWork s t

-- the answer tells what the provider answered to a making
pub record Tells {S X : Type 0} (f : Algebra X) (meaning : S → Meaning X) (s : S) (m : Making) (a : Option Answer) (s' : S) : Type 0 where
  pub result : Result ℕ ProviderError
  pub answers : Answers f meaning s m result s'
  pub told : a ≡ Some (Made result)

-- Before a provider is chosen, a call that needs one has no answer. A making alters nothing but the provider that is chosen.
abbrev pub MadeBy : Option Chosen → Console → Making → Option Answer → Console → Type 0
MadeBy None s m a t = (a ≡ None) × (t ≡ s)
MadeBy (Some Bytes) s m a t = Tells byte_algebra bytes_meaning s.bytes m a t.bytes × (t.symbolic ≡ s.symbolic) × (t.chosen ≡ Some Bytes) × (t.shown ≡ s.shown) × KeptWork s t
MadeBy (Some Symbolic) s m a t = Tells term_algebra terms_meaning s.symbolic m a t.symbolic × (t.bytes ≡ s.bytes) × (t.chosen ≡ Some Symbolic) × (t.shown ≡ s.shown) × KeptWork s t

abbrev pub FitsBy : Option Chosen → Console → Making → Option Answer → Type 0
FitsBy None s m a = a ≡ None
FitsBy (Some Bytes) s m a = a ≡ Some (Said (bytes_fit s.bytes m))
FitsBy (Some Symbolic) s m a = a ≡ Some (Said (terms_fit s.symbolic m))

abbrev pub SameBy : Option Chosen → Console → ℕ → ℕ → Option Answer → Type 0
SameBy None s x y a = a ≡ None
SameBy (Some Bytes) s x y a = (b : Bool) × SameValue (bytes_issued s.bytes) x y b × (a ≡ Some (Said b))
SameBy (Some Symbolic) s x y a = (b : Bool) × SameValue (terms_issued s.symbolic) x y b × (a ≡ Some (Said b))

-- the value of an issued handle stands at the front of what is shown
abbrev pub Shown : Option (List ℕ) → Answer → List ℕ → Type 0
Shown None a shown = a ≡ ShownBytes None
Shown (Some v) a shown = (a ≡ ShownBytes (Some (length v))) × (take (length v) shown ≡ v)

abbrev pub BytesShown : Console → ℕ → Answer → Console → Type 0
BytesShown s h a t = Shown (stands (bytes_issued s.bytes) h) a t.shown × KeptProviders s t × KeptWork s t

-- the term of an issued handle is told by its record
pub record TermShown (s : Console) (h : ℕ) (a : Answer) : Type 0 where
  pub node : Option TermNode
  pub recorded : Recorded (terms_issued s.symbolic) h node
  pub tells : a ≡ Term node

abbrev pub ShownBy : Option Chosen → Console → ℕ → Option Answer → Console → Type 0
ShownBy None s h a t = (a ≡ None) × (t ≡ s)
ShownBy (Some Bytes) s h a t = IsSomeAnd a (λ x. BytesShown s h x t)
ShownBy (Some Symbolic) s h a t = IsSomeAnd a (λ x. TermShown s h x) × (t ≡ s)

-- a blank protocol; all else is as it was
pub record Blanked (s : Console) (a : Option Answer) (t : Console) : Type 0 where
  pub done : a ≡ Some Done
  pub protocol : view_of t.protocol ≡ blank
  pub workspace : t.workspace ≡ s.workspace
  pub providers : KeptProviders s t

-- the answer tells what the protocol answered; all else is as it was
pub record AskedOf (s : Console) (c : ProtocolCall) (a : Option Answer) (t : Console) : Type 0 where
  pub result : Result Reply Refusal
  pub performed : Performed (view_of s.protocol) (call_of c) result (view_of t.protocol)
  pub told : a ≡ Some (Asked result)
  pub workspace : t.workspace ≡ s.workspace
  pub providers : KeptProviders s t

-- the answer tells whether an agent's script was listed, and how many bytes the text has that stands at the front of what is shown
pub record ListedBy (s : Console) (agent : ℕ) (a : Option Answer) (t : Console) : Type 0 where
  pub result : Result ℕ ListingError
  pub lists : Lists (lines_of s.protocol) agent s.shown result t.shown
  pub told : a ≡ Some (Listed result)
  pub providers : KeptProviders s t
  pub work : KeptWork s t

-- What a protocol and the chosen provider do together alters that provider and what sessions work on. Before a provider is chosen
-- there is no answer.
abbrev pub ActedBy : Option Chosen → Console → Act → Option Answer → Console → Type 0
ActedBy None s c a t = (a ≡ None) × (t ≡ s)
ActedBy (Some Bytes) s c a t = Acts byte_algebra bytes_meaning s.protocol c s.workspace s.bytes a t.workspace t.bytes × (t.symbolic ≡ s.symbolic) × (t.chosen ≡ Some Bytes) × (t.protocol ≡ s.protocol)
ActedBy (Some Symbolic) s c a t = Acts term_algebra terms_meaning s.protocol c s.workspace s.symbolic a t.workspace t.symbolic × (t.bytes ≡ s.bytes) × (t.chosen ≡ Some Symbolic) × (t.protocol ≡ s.protocol)

-- a call on the workspace alone
abbrev pub OnWorkspace : Console → Console → Type 0
OnWorkspace s t = (t.protocol ≡ s.protocol) × KeptProviders s t

abbrev pub Answered : Console → Call → Option Answer → Console → Type 0
Answered s BlankCall a t = Blanked s a t
Answered s (Protocol c) a t = AskedOf s c a t
Answered s (Listing agent) a t = ListedBy s agent a t
Answered s ChooseBytes a t = ChoseBytes s a t
Answered s ChooseSymbolic a t = ChoseSymbolic s a t
Answered s (Make m) a t = MadeBy s.chosen s m a t
Answered s (Fits m) a t = FitsBy s.chosen s m a × (t ≡ s)
Answered s (Same x y) a t = SameBy s.chosen s x y a × (t ≡ s)
Answered s (Show h) a t = ShownBy s.chosen s h a t
Answered s (Memory r n) a t = LentIf r n s.workspace a t.workspace × OnWorkspace s t
Answered s (NewSession party) a t = Opens party s.workspace a t.workspace × OnWorkspace s t
Answered s (ActCall c) a t = ActedBy s.chosen s c a t

-- a line that writes no call alters nothing
abbrev pub LineAnswered : Console → Option Call → Option Answer → Console → Type 0
LineAnswered s None a t = (a ≡ None) × (t ≡ s)
LineAnswered s (Some c) a t = Answered s c a t
