-- Looking up agents and terms in the state, and what an agent can build.
use Rattle.std.proofs.Common.{◌≡◌, ℕ, ◌<◌, ◌≤◌, Bool, true, false, not, length, is_some, Some, None, Option, Ok, Err, sym, refl, ap, arith}
use mathlib.Core.Bool.{false≢true}
use Rattle.terms.specs.Listed.{listed}
use Rattle.terms.specs.Tree.{tree}
use Rattle.scripts.specs.declared.script.Script.{Script}
use Rattle.scripts.specs.Composing.{view, AllNamed, Lacks}
use Rattle.scripts.specs.Lines.{script_of}
use Rattle.scripts.specs.View.{written}
use Rattle.rules.specs.Compose.{composes}
use Rattle.rules.specs.State.{CAN, nth}
use Rattle.rules.proofs.Nth.{nth_past}
use Rattle.protocol.specs.declared.call.Reply.TheVariants.{Said}
use Rattle.protocol.specs.declared.protocol.Protocol.{Protocol}
use Rattle.protocol.specs.declared.refusal.Refusal.TheVariants as refusals
use Rattle.protocol.specs.Outcome.{Performed}
use Rattle.protocol.specs.View.{lines_of, view_of}
use Rattle.protocol.proofs.Known.{script_known, all_scripts}
use Rattle.protocol.proofs.Reading.{agents_are, nth_map}
use Rattle.protocol.proofs.Trees.{nth_trees, none_trees}

module _ (c : Protocol) where
  pub state_no_script : (p : ℕ) → length (lines_of c) ≤ p → nth (view_of c).scripts p ≡ None
  state_no_script p l = nth_past (view_of c).scripts p (omega (arith, l, agents_are c))

  -- the script of an agent, in the state, and what it names and holds are terms
  module _ (p : ℕ) (x : Script) (at : nth (lines_of c) p ≡ Some (written x)) where
    pub state_script : nth (view_of c).scripts p ≡ Some (view (listed c.terms) x)
    state_script = nth_map (script_of (tree (listed c.terms))) (lines_of c) p (written x) at

    pub agent_known : AllNamed (length (listed c.terms)) (written x)
    agent_known = script_known (length (listed c.terms)) (lines_of c) p (written x) (all_scripts c) at

  pub can_no_agent : (p n : ℕ) → length (lines_of c) ≤ p → Performed (view_of c) (CAN p n) (Err refusals.Unknown) (view_of c)
  can_no_agent p n l = let e = state_no_script p l in record { answer = rw e refl; after = rw e refl }

  module _ (p n : ℕ) (x : Script) (at : nth (lines_of c) p ≡ Some (written x)) where
    pub can_no_term : length (listed c.terms) ≤ n → Performed (view_of c) (CAN p n) (Err refusals.Unknown) (view_of c)
    can_no_term l =
        let e = state_script p x at in
        let f = none_trees (listed c.terms) n l in
        record { answer = rw (e, f) refl; after = rw (e, f) refl }

    can_is : n < length (listed c.terms) → (b : Bool) → b ≡ composes (view (listed c.terms) x) (tree (listed c.terms) n) → Performed (view_of c) (CAN p n) (Ok (Said b)) (view_of c)
    can_is l b q =
        let e = state_script p x at in
        let f = nth_trees (listed c.terms) n l in
        record { answer = rw (e, f) (ap (λ y. Ok (Said y)) q); after = rw (e, f) refl }

    lacks_said : (r : Option ℕ) (b : Bool) → is_some r ≡ not b → Lacks (listed c.terms) x n r → b ≡ composes (view (listed c.terms) x) (tree (listed c.terms) n)
    lacks_said None true e w = sym (ap is_some w.1)
    lacks_said None false e w = absurd (false≢true e)
    lacks_said (Some m) true e w = absurd (false≢true (sym e))
    lacks_said (Some m) false e w = sym (ap is_some w.2)

    pub can_said : n < length (listed c.terms) → (r : Option ℕ) (b : Bool) → is_some r ≡ not b → Lacks (listed c.terms) x n r → Performed (view_of c) (CAN p n) (Ok (Said b)) (view_of c)
    can_said l r b e w = can_is l b (lacks_said r b e w)
