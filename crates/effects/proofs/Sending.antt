-- The message composed after its fresh names, and sent.
use Rattle.std.proofs.Common.{◌≡◌, ℕ, List, [], ◌∷◌, length, Some, None, Ok, Err, sym, ap, ◌∙◌, arith, length-append}
use Rattle.deduction.specs.Term.{Term}
use Rattle.terms.specs.declared.node.TermNode.{TermNode}
use Rattle.terms.specs.Tree.{tree}
use Rattle.rules.specs.Script.{SEND, Script as RuleScript, line, ◌then◌}
use Rattle.rules.specs.Compose.{compose}
use Rattle.rules.specs.Effects.{freshens, sends, sent}
use Rattle.rules.proofs.Begins.{begins_length, compose_begins}
use Rattle.scripts.specs.declared.instruction.Instruction.TheVariants.{Send}
use Rattle.scripts.specs.declared.instruction.ScriptError.{ScriptError}
use Rattle.scripts.specs.declared.instruction.ScriptError.TheVariants.{Full, Missing}
use Rattle.scripts.specs.declared.script.Script.{Script}
use Rattle.scripts.specs.Composing.{view, AllNamed, Composes}
use Rattle.scripts.specs.View.{written, Pushed}
use Rattle.scripts.specs.Writing.{Writes}
use Rattle.scripts.proofs.Writing.{pushed_writes}
use Rattle.effects.specs.Sending.{Sends, LacksFresh}

module _ (ts : List TermNode) (v : RuleScript) (fresh : List Term) (t address : ℕ) where
  module _ (can : LacksFresh ts v fresh (tree ts t) None) where
    -- the fresh names find no room
    pub send_stop_fresh : (s1 : Script) (e : ScriptError) → Writes {A = Unit {0}} ts (freshens v fresh) (Err e) s1 → Sends ts v fresh (tree ts t) address (Err e)
    send_stop_fresh s1 Full p =
        let c = can.0 in
        let l = begins_length (freshens v fresh) c.script (compose_begins (freshens v fresh) (tree ts t) c can.1) in
        (c.script then line (SEND c.slot address) None, ap (sends address) can.1, omega (arith, p, l, length-append c.script (line (SEND c.slot address) None ∷ [])))
    send_stop_fresh s1 (Missing m) p = absurd p

    module _ (s1 : Script) (one : view ts s1 ≡ freshens v fresh) where
      here : compose (freshens v fresh) (tree ts t) ≡ compose (view ts s1) (tree ts t)
      here = ap (λ x. compose x (tree ts t)) (sym one)

      -- the message finds no room
      pub send_stop_message : (s2 : Script) (e : ScriptError) → Composes ts s1 t (Err e) s2 → Sends ts v fresh (tree ts t) address (Err e)
      send_stop_message s2 Full p =
          let c = p.0.0 in
          (c.script then line (SEND c.slot address) None, ap (sends address) (here ∙ p.0.1), omega (arith, p.0.2, length-append c.script (line (SEND c.slot address) None ∷ [])))
      send_stop_message s2 (Missing m) p = let z : ◌≡◌ {A = ℕ} 0 1 = cc (here, can.1, p.0.2) in absurd (omega (arith, z))

      module _ (n : ℕ) (s2 s3 : Script) (two : Composes ts s1 t (Ok n) s2) (named : AllNamed (length ts) (written s2)) where
        all : sent v fresh (tree ts t) address ≡ Some (view ts s2 then line (SEND n address) None)
        all = ap (sends address) (here ∙ two.0)

        -- SEND finds no room
        pub send_stop_address : (e : ScriptError) → Pushed s2 (record { op = Send n address; holds = None }) (Err e) s3 → Sends ts v fresh (tree ts t) address (Err e)
        send_stop_address Full p =
            (view ts s2 then line (SEND n address) None, all, pushed_writes ts s2 s3 (record { op = Send n address; holds = None }) (Err Full) p named (tt, tt))
        send_stop_address (Missing m) p = absurd p

        pub send_all : (k : ℕ) → Pushed s2 (record { op = Send n address; holds = None }) (Ok k) s3 → Sends ts v fresh (tree ts t) address (Ok s3)
        send_all k p =
            let w = pushed_writes ts s2 s3 (record { op = Send n address; holds = None }) (Ok k) p named (tt, tt) in
            (all ∙ ap Some (sym w.0), w.1)
