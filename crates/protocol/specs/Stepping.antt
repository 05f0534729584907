-- What a step is judged by.
use Rattle.std.specs.Prelude.{◌≡◌, ℕ, ◌<◌, Bool, List, [], length, Some, Ok, Err, Result, slice_index_or}
use Rattle.deduction.specs.Term.{Kind}
use Rattle.terms.specs.Held.{held_terms}
use Rattle.terms.specs.Listed.{listed}
use Rattle.terms.specs.Tree.{tree}
use Rattle.freshness.specs.Fresh.{occurs_in}
use Rattle.rules.specs.Script.{find}
use Rattle.rules.specs.State.{STEP, name_of, used, used_in_some}
use Rattle.protocol.specs.declared.protocol.Protocol.{Protocol}
use Rattle.protocol.specs.declared.step.Delivery.{Delivery}
use Rattle.protocol.specs.declared.refusal.Refusal.{Refusal}
use Rattle.protocol.specs.Outcome.{Performed}
use Rattle.protocol.specs.View.{lines_of, steps_of, view_of}

-- a name occurs in a marked term exactly if it occurs in a term that some instruction gives
pub record ShowsGiven (c : Protocol) (marks : List Bool) : Type 0 where
  pub size : length marks ≡ 512
  pub given : (k : Kind) (i : ℕ) → occurs_in k i (held_terms (listed c.terms) marks) ≡ used_in_some k i (view_of c).scripts

-- a name occurs in a marked term exactly if it is used
pub record ShowsUsed (c : Protocol) (marks : List Bool) : Type 0 where
  pub size : length marks ≡ 512
  pub uses : (k : Kind) (i : ℕ) → occurs_in k i (held_terms (listed c.terms) marks) ≡ used (view_of c) k i

-- sender and receiver are two different parties, the message is a term, there is room for a step, and the sender has the receiver's
-- name at the address
pub record Addressed (c : Protocol) (a b n : ℕ) (d : Delivery) : Type 0 where
  pub sender_below : a < length (lines_of c)
  pub receiver_below : b < length (lines_of c)
  pub message_below : n < length (listed c.terms)
  pub different : a ≡ b → ⊥
  pub from_below : d.from < length (listed c.terms)
  pub from_is : name_of (view_of c) a ≡ Some (tree (listed c.terms) d.from)
  pub to_below : d.to < length (listed c.terms)
  pub to_is : name_of (view_of c) b ≡ Some (tree (listed c.terms) d.to)
  pub room : length (steps_of c) < 64
  pub address_is : find (slice_index_or (view_of c).scripts a []) (tree (listed c.terms) d.to) ≡ Some d.address

-- the tests before the message is looked at: all pass, or the step is refused by the first that fails
abbrev pub Addresses : Protocol → ℕ → ℕ → ℕ → Result Delivery Refusal → Type 0
Addresses c a b n (Ok d) = Addressed c a b n d
Addresses c a b n (Err e) = Performed (view_of c) (STEP a b n) (Err e) (view_of c)
