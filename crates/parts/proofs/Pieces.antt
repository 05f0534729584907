-- The two parts that a step writes, and that they stay as scripts go on.
use Rattle.std.proofs.Common.{◌≡◌, ℕ, ◌+◌, ◌-◌, ◌<◌, ◌≤◌, ◌⊎◌, List, [], ◌∷◌, length, Some, None, sym, refl, ap, subst, inl, inr, arith}
use Rattle.std.proofs.lemmas.List.{length_push}
use Rattle.deduction.specs.Term.{Term}
use Rattle.rules.specs.Script.{Op, FROM, SEND, Line, Script, line, ◌then◌, find}
use Rattle.rules.specs.Compose.{Composed, compose}
use Rattle.rules.specs.Effects.{freshens, sends, received}
use Rattle.rules.specs.State.{nth}
use Rattle.rules.specs.Grows.{Holds, Begins}
use Rattle.rules.proofs.Find.{find_holds, holds_append, holds_below}
use Rattle.rules.proofs.Grows.{grows_begins}
use Rattle.rules.proofs.Nth.{nth_left, nth_right, nth_either}
use Rattle.rules.proofs.Compose.{Any, any_within, composed_makes}
use Rattle.rules.proofs.Begins.{begins_length, sent_begins}
use Rattle.parts.specs.Kinds.{Prepares, Takes}
use Rattle.parts.specs.Parts.{Each, ReceiverPart}
use Rattle.parts.proofs.Writing.{Writes, wrote_each, sender_prepares, received_takes, received_first}

-- a line of a script keeps its place as the script goes on
pub nth_on : (s s' : Script) → Begins s s' → (k : ℕ) (l : Line) → nth s k ≡ Some l → nth s' k ≡ Some l
nth_on s s' b k l e = subst (λ x. nth x k ≡ Some l) (sym b.1) (nth_left s b.0 k l e)

-- and a line at such a place was there before
pub nth_back : (s s' : Script) → Begins s s' → (k : ℕ) (l : Line) → k < length s → nth s' k ≡ Some l → nth s k ≡ Some l
nth_back s s' b k l h e = go (nth_either s b.0 k l (subst (λ x. nth x k ≡ Some l) b.1 e))
  where
    go : (nth s k ≡ Some l) ⊎ ((d : ℕ) × (k ≡ d + length s) × (nth b.0 d ≡ Some l)) → nth s k ≡ Some l
    go (inl x) = x
    go (inr w) = let q = w.1 in absurd (omega arith)

pub each_on : (O : Op → Type 0) (s s' : Script) (from end : ℕ) → Begins s s' → end ≤ length s → Each O s from end → Each O s' from end
each_on O s s' from end b h each k l f e q = each k l f e (nth_back s s' b k l (omega arith) q)

holds_on : (s s' : Script) → Begins s s' → (n : ℕ) (t : Term) → Holds s n t → Holds s' n t
holds_on s s' b n t h = subst (λ x. Holds x n t) (sym b.1) (holds_append s b.0 n t h)

-- a sender's part, whose SEND names slots that hold the message and the receiver's name
pub record Sending (s : Script) (m to : Term) (from end : ℕ) : Type 0 where
  pub some : from < end
  pub within : end ≤ length s
  pub message_slot : ℕ
  pub address_slot : ℕ
  pub last : nth s (end - 1) ≡ Some (line (SEND message_slot address_slot) None)
  pub message_before : message_slot < end - 1
  pub address_before : address_slot < end - 1
  pub message_held : Holds s message_slot m
  pub address_held : Holds s address_slot to
  pub prepares : Each Prepares s from (end - 1)

pub sending_on : (s s' : Script) (m to : Term) (from end : ℕ) → Begins s s' → Sending s m to from end → Sending s' m to from end
sending_on s s' m to from end b w =
    record {
      some = w.some;
      within = (let h = begins_length s s' b in omega (arith, w.within));
      message_slot = w.message_slot;
      address_slot = w.address_slot;
      last = nth_on s s' b (end - 1) (line (SEND w.message_slot w.address_slot) None) w.last;
      message_before = w.message_before;
      address_before = w.address_before;
      message_held = holds_on s s' b w.message_slot m w.message_held;
      address_held = holds_on s s' b w.address_slot to w.address_held;
      prepares = each_on Prepares s s' from (end - 1) b (omega (arith, w.within)) w.prepares;
    }

pub receiving_on : (s s' : Script) (who m : Term) (from end : ℕ) → Begins s s' → ReceiverPart s who m from end → ReceiverPart s' who m from end
receiving_on s s' who m from end b w =
    record {
      some = w.some;
      within = (let h = begins_length s s' b in omega (arith, w.within));
      holds = w.holds;
      first = nth_on s s' b from (line (FROM who) w.holds) w.first;
      takes = each_on (Takes who m) s s' from end b w.within w.takes;
    }

-- what a step writes into its sender's script
module _ (s : Script) (fresh : List Term) (m to : Term) (address : ℕ) (found : find s to ≡ Some address)
    (c : Composed) (made : compose (freshens s fresh) m ≡ Some c) where
  abbrev send : Line
  send = line (SEND c.slot address) None

  pub sender_begins : Begins s (c.script then line (SEND c.slot address) None)
  sender_begins = sent_begins s fresh m address (c.script then send) (ap (λ o. sends address o) made)

  pub sender_part : Sending (c.script then line (SEND c.slot address) None) m to (length s) (length (c.script then line (SEND c.slot address) None))
  sender_part =
      let g = sender_prepares s fresh m c made in
      let b = grows_begins (Writes Prepares) g in
      let h = begins_length s c.script b in
      let n = length_push c.script send in
      let e : length (c.script then send) - 1 ≡ 0 + length c.script = omega arith in
      let at = (composed_makes Any (freshens s fresh) m (any_within m) c made).holds in
      let to_held = find_holds s to address found in
      let below = holds_below c.script c.slot m at in
      let near = holds_below s address to to_held in
      record {
        some = omega arith;
        within = omega arith;
        message_slot = c.slot;
        address_slot = address;
        last = nth_right c.script (send ∷ []) 0 (length (c.script then send) - 1) e;
        message_before = omega arith;
        address_before = omega arith;
        message_held = holds_append c.script (send ∷ []) c.slot m at;
        address_held = holds_on s (c.script then send) sender_begins address to to_held;
        prepares = λ k l f q x. wrote_each Prepares g k l f (nth_back c.script (c.script then send) (send ∷ [], refl) k l (omega arith) x);
      }

-- what it writes into its receiver's script
pub receiver_part : (s : Script) (who m : Term) → ReceiverPart (received s who m) who m (length s) (length (received s who m))
receiver_part s who m =
    let w = received_first who m s in
    let l : Line = line (FROM who) w.0 in
    let n = length_push s l in
    let h = begins_length (s then l) (received s who m) w.1 in
    record {
      some = omega arith;
      within = omega arith;
      holds = w.0;
      first = nth_on (s then l) (received s who m) w.1 (length s) l (nth_right s (l ∷ []) 0 (length s) (omega arith));
      takes = λ k x f q e. wrote_each (Takes who m) (received_takes who m s) k x f e;
    }
