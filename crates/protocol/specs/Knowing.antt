-- What initial knowledge writes.
use Rattle.std.specs.Prelude.{◌≡◌, ℕ, ◌<◌, length, Ok, Err, Result, slice_set}
use Rattle.terms.specs.Listed.{listed}
use Rattle.scripts.specs.declared.script.Script.{Script}
use Rattle.scripts.specs.Composing.{view, AllNamed}
use Rattle.scripts.specs.View.{written}
use Rattle.rules.specs.State.{KNOW, known, outcome, perform}
use Rattle.protocol.specs.declared.protocol.Protocol.{Protocol}
use Rattle.protocol.specs.declared.refusal.Refusal.{Refusal}
use Rattle.protocol.specs.Outcome.{Performed}
use Rattle.protocol.specs.View.{lines_of, view_of}

-- the knowledge is granted with this script of the agent
pub record Learned (c : Protocol) (p n : ℕ) (s : Script) : Type 0 where
  pub agent : p < length (lines_of c)
  pub performs :
      perform (view_of c) (KNOW p n)
      ≡ outcome (known p n) (record { terms = (view_of c).terms; scripts = slice_set (view_of c).scripts p (view (listed c.terms) s); steps = (view_of c).steps })
  pub all_known : AllNamed (length (listed c.terms)) (written s)

-- it is granted, or refused
abbrev pub Learns : Protocol → ℕ → ℕ → Result Script Refusal → Type 0
Learns c p n (Ok s) = Learned c p n s
Learns c p n (Err e) = Performed (view_of c) (KNOW p n) (Err e) (view_of c)
