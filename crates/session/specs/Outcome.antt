-- What each call answers and does.
use Rattle.std.specs.Prelude.{◌≡◌, ℕ, Bool, true, false, List, length, Some, None, Ok, Err, Option, Result, nat_le}
use Rattle.provider.specs.Algebra.{Algebra}
use Rattle.provider.specs.Meaning.{Meaning}
use Rattle.terms.specs.declared.node.TermNode.{TermNode}
use Rattle.terms.specs.Listed.{listed}
use Rattle.scripts.specs.declared.instruction.Line.{Line}
use Rattle.acting.specs.declared.halt.Halt.{Halt}
use Rattle.acting.specs.declared.refusal.SessionRefusal.{SessionRefusal}
use Rattle.acting.specs.declared.refusal.SessionRefusal.TheVariants.{NoMemory}
use Rattle.acting.specs.Refusals.{halt_refusal}
use Rattle.acting.specs.Loading.{Loads}
use Rattle.acting.specs.Carrying.{CarriedOut}
use Rattle.protocol.specs.declared.protocol.Protocol.{Protocol}
use Rattle.session.specs.declared.session.Session.{Session}
use Rattle.session.specs.declared.work.Work.{Work}
use Rattle.session.specs.Sent.{sent_by}
use Rattle.session.specs.Plans.{lines_in, unready, start_work, send_work, receive_work}

-- what is done has its answer, and what was stopped is refused
abbrev pub answered : {A : Type 0} → (ℕ → A) → Result ℕ Halt → Result A SessionRefusal
answered a (Ok n) = Ok (a n)
answered a (Err h) = Err (halt_refusal h)

-- Loading with too few readings is refused and alters nothing; with enough it is what loading the terms is, and answers their number.
abbrev pub LoadsIf : {S X : Type 0} → Algebra X → (S → Meaning X) → List TermNode → Bool → S → List ℕ → Result ℕ SessionRefusal → S → List ℕ → Type 0
LoadsIf f m ts false s readings r s' readings' = (r ≡ Err NoMemory) × (s' ≡ s) × (readings' ≡ readings)
LoadsIf f m ts true s readings r s' readings' = (o : Result ℕ Halt) × Loads f m ts s readings o s' readings' × (r ≡ answered (λ n. length ts) o)

-- loading a protocol's terms; there are to be as many readings as terms
abbrev pub Loaded : {S X : Type 0} → Algebra X → (S → Meaning X) → Protocol → S → List ℕ → Result ℕ SessionRefusal → S → List ℕ → Type 0
Loaded f m p s readings r s' readings' = LoadsIf f m (listed p.terms) (nat_le (length (listed p.terms)) (length readings)) s readings r s' readings'

-- the session after a work: its party's steps below number n are done, or as it was where it was stopped
abbrev pub after : Session → ℕ → Result ℕ Halt → Session
after x n (Ok k) = record { party = x.party; next = Some n }
after x n (Err h) = x

-- Carrying out a work on the lines of a script, whole: the comparisons counted, or the instruction at which it was stopped, and by
-- what; the session, the provider and the slots after it.
pub record Carried {S X : Type 0} (f : Algebra X) (m : S → Meaning X) (readings : List ℕ) (ls : List Line) (w : Work) (x : Session) (s : S) (slots : List ℕ) (o : Result ℕ Halt) (x' : Session) (s' : S) (slots' : List ℕ) : Type 0 where
  pub carried : CarriedOut f m readings w.part 0 ls w.start w.end s slots o s' slots'
  pub session : x' ≡ after x w.next o

-- A call that is refused at once alters nothing; any other carries out its work, and what it answers is made of the work, the slots
-- after it and the count.
abbrev pub Performed : {S X A : Type 0} → Algebra X → (S → Meaning X) → List ℕ → List Line → (Work → List ℕ → ℕ → A) → Result Work SessionRefusal
    → Session → S → List ℕ → Result A SessionRefusal → Session → S → List ℕ → Type 0
Performed f m readings ls a (Err e) x s slots r x' s' slots' = (r ≡ Err e) × (x' ≡ x) × (s' ≡ s) × (slots' ≡ slots)
Performed f m readings ls a (Ok w) x s slots r x' s' slots' =
    (o : Result ℕ Halt) × Carried f m readings ls w x s slots o x' s' slots' × (r ≡ answered (a w slots') o)

-- the refusals for want of a party or of memory come before that for the turn
abbrev pub first : Option SessionRefusal → Result Work SessionRefusal → Result Work SessionRefusal
first None w = w
first (Some e) w = Err e

-- starting answers how many instructions are carried out
abbrev pub Starts : {S X : Type 0} → Algebra X → (S → Meaning X) → Protocol → List ℕ → Session → S → List ℕ → Result ℕ SessionRefusal → Session → S → List ℕ → Type 0
Starts f m p readings x s slots r x' s' slots' =
    Performed f m readings (lines_in p x.party) (λ w hs n. w.end)
    (first (unready p x.party (length readings) (length slots)) (start_work p x.party x.next))
    x s slots r x' s' slots'

-- sending answers the handles of the message and of the address
abbrev pub Sends : {S X : Type 0} → Algebra X → (S → Meaning X) → Protocol → List ℕ → Session → S → List ℕ → Result (ℕ × ℕ) SessionRefusal → Session → S → List ℕ → Type 0
Sends f m p readings x s slots r x' s' slots' =
    Performed f m readings (lines_in p x.party) (λ w hs n. sent_by (lines_in p x.party) w.end hs)
    (first (unready p x.party (length readings) (length slots)) (send_work p x.party x.next))
    x s slots r x' s' slots'

-- receiving answers how many comparisons were done
abbrev pub Receives : {S X : Type 0} → Algebra X → (S → Meaning X) → Protocol → List ℕ → ℕ → ℕ → Session → S → List ℕ → Result ℕ SessionRefusal → Session → S → List ℕ → Type 0
Receives f m p readings from message x s slots r x' s' slots' =
    Performed f m readings (lines_in p x.party) (λ w hs n. n)
    (first (unready p x.party (length readings) (length slots)) (receive_work from message p x.party x.next))
    x s slots r x' s' slots'
