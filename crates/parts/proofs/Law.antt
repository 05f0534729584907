-- What every granted step wrote, in terms that the slots stand for.
use Rattle.std.proofs.Common.{◌≡◌, ℕ, zero, suc, ◌+◌, ◌-◌, ◌<◌, ◌≤◌, List, [], ◌∷◌, length, Some, None, sym, refl, ap, ◌∙◌, subst, arith}
use Rattle.deduction.specs.Term.{Term}
use Rattle.rules.specs.Script.{SEND, Script, line}
use Rattle.rules.specs.State.{Step, nth}
use Rattle.rules.specs.Grows.{Holds}
use Rattle.rules.proofs.Find.{some_none}
use Rattle.rules.proofs.Nth.{nth_below, nth_at}
use Rattle.valuation.specs.Fit.{at, terms_of, Fits}
use Rattle.valuation.proofs.Slots.{fits_before}
use Rattle.valuation.proofs.Scripts.{Slot, HeldAt, AllHeld, all_held}
use Rattle.valuation.proofs.States.{scripts_fit}
use Rattle.valuation.proofs.Terms.{name_in}
use Rattle.parts.specs.Parts.{script_of, sent_from, received_from, SenderPart, ReceiverPart, StepWrote, PartyWrote}
use Rattle.parts.specs.Law.{StepsWrote}
use Rattle.parts.proofs.Pieces.{Sending}
use Rattle.parts.proofs.Played.{read_at, above, StepPlayed, Played, came_played}

-- a slot that holds a term stands for it
held_stands : (terms ts : List Term) (n : ℕ) (s : Script) → AllHeld terms ts n s → (d : ℕ) (t : Term) → Holds s d t → at ts (n + d) ≡ t
held_stands terms ts n [] h d t e = absurd (some_none None e refl)
held_stands terms ts n (l ∷ s) h zero t e =
    let q : n + zero ≡ n = omega arith in
    let w : Slot terms ts n t = subst (HeldAt terms ts n) e h.0 in
    ap (at ts) q ∙ w.is
held_stands terms ts n (l ∷ s) h (suc d) t e =
    let q : n + suc d ≡ (n + 1) + d = omega arith in ap (at ts) q ∙ held_stands terms ts (n + 1) s h.1 d t e

holds_stands : (terms : List Term) (s : Script) → Fits terms s → (n : ℕ) (t : Term) → Holds s n t → at (terms_of s) n ≡ t
holds_stands terms s fits n t h =
    let q : 0 + n ≡ n = omega arith in ap (at (terms_of s)) (sym q) ∙ held_stands terms (terms_of s) 0 s (all_held terms s fits) n t h

-- a SEND stands for what it sends
send_stands : (terms : List Term) (s : Script) → Fits terms s → (k i j : ℕ) → nth s k ≡ Some (line (SEND i j) None) → at (terms_of s) k ≡ at (terms_of s) i
send_stands terms s fits k i j e =
    let w = fits_before terms s fits k (line (SEND i j) None) e in w.is ∙ sym (w.kept i w.fit.0)

sender_wrote : (terms : List Term) (s : Script) (m to : Term) (from end : ℕ) → Fits terms s → Sending s m to from end → SenderPart s m to from end
sender_wrote terms s m to from end fits w =
    let is = holds_stands terms s fits w.message_slot m w.message_held in
    record {
      some = w.some;
      within = w.within;
      message_slot = w.message_slot;
      address_slot = w.address_slot;
      last = w.last;
      message_before = w.message_before;
      address_before = w.address_before;
      message_is = is;
      address_is = holds_stands terms s fits w.address_slot to w.address_held;
      sent_is = send_stands terms s fits (end - 1) w.message_slot w.address_slot w.last ∙ is;
      prepares = w.prepares;
    }

pub steps_wrote : StepsWrote
steps_wrote past st came = record { steps = λ l x e. steps _ x (v.steps l x e); parties = parties }
  where
    v : Played st
    v = came_played past st came

    steps : (earlier : List Step) (x : Step) → StepPlayed st earlier x → StepWrote st earlier x
    steps earlier x w =
        record {
          sender_from = above st x.sender w.sender_name w.sender_is;
          sender_below = nth_below st.scripts x.sender w.sender_script w.sender_has;
          receiver_from = above st x.receiver w.receiver_name w.receiver_is;
          receiver_below = nth_below st.scripts x.receiver w.receiver_script w.receiver_has;
          different = w.different;
          message_in = w.message_in;
          sender_name = w.sender_name;
          sender_is = w.sender_is;
          sender_in = name_in st x.sender w.sender_name w.sender_is;
          receiver_name = w.receiver_name;
          receiver_is = w.receiver_is;
          receiver_in = name_in st x.receiver w.receiver_name w.receiver_is;
          sends =
              subst (λ s. SenderPart s x.message w.receiver_name (sent_from st earlier x) x.sent) (sym (read_at st.scripts x.sender w.sender_script [] w.sender_has))
              (sender_wrote st.terms w.sender_script x.message w.receiver_name (sent_from st earlier x) x.sent
              (scripts_fit past st came x.sender w.sender_script w.sender_has) w.sends);
          receives =
              subst (λ s. ReceiverPart s w.sender_name x.message (received_from st earlier x) x.received) (sym (read_at st.scripts x.receiver w.receiver_script [] w.receiver_has))
              w.receives;
        }

    parties : (p : ℕ) → 1 ≤ p → p < length st.scripts → PartyWrote st p
    parties p h l =
        let w = v.parties p (script_of st p) h (nth_at st.scripts p [] l) in record { within = w.within; starts = w.starts; all = w.all }
