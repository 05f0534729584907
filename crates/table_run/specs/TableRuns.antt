-- What reading a table and running it answers and does.
use Rattle.std.specs.Prelude.{◌≡◌, ℕ, List, Ok, Err, Result}
use Rattle.provider.specs.Algebra.{Algebra}
use Rattle.provider.specs.Meaning.{Meaning}
use Rattle.protocol.specs.declared.protocol.Protocol.{Protocol}
use Rattle.protocol.specs.View.{view_of}
use Rattle.rules.specs.History.{History, Came}
use Rattle.runs.specs.declared.fault.Played.{Played}
use Rattle.runs.specs.declared.fault.RunFault.{RunFault}
use Rattle.runs.specs.Whole.{RanOf, RestKeptOf, RunLawOf}
use Rattle.table_text.specs.declared.fault.TextFault.{TextFault}
use Rattle.table_text.specs.Law.{TextLaw}
use Rattle.table_text.specs.Tables.{ReadsTable}
use Rattle.table_run.specs.declared.fault.TableRunFault.{TableRunFault}
use Rattle.table_run.specs.declared.fault.TableRunFault.TheVariants.{Text, Run}

-- The text was read, and the protocol that came of it was run: the whole outcome of both, the law on refusals for the text, and the law on
-- runs for the run. There is a history that leads to the protocol, so that the law on runs, which speaks of every such history, says something.
pub record RunOfText {S X : Type 0} (f : Algebra X) (m : S → Meaning X) (text : List ℕ) (s : S) (readings slots : List ℕ) (r : Result Played RunFault) (p' : Protocol) (s' : S) (readings' slots' : List ℕ) : Type 0 where
  pub steps : ℕ
  pub read : ReadsTable text (Ok steps) (view_of p')
  pub refusals : TextLaw text (Ok steps)
  pub past : History
  pub came : Came past (view_of p')
  pub ran : RanOf f m p' s readings slots r s' readings' slots'
  pub kept : RestKeptOf m p' s readings slots s' readings' slots'
  pub runs : RunLawOf f m p' readings slots r s' readings' slots'

-- the text was refused, by the law on refusals, and nothing was run
pub record RefusedText {S : Type 0} (text : List ℕ) (s : S) (readings slots : List ℕ) (e : TextFault) (p' : Protocol) (s' : S) (readings' slots' : List ℕ) : Type 0 where
  pub read : ReadsTable text (Err e) (view_of p')
  pub refusals : TextLaw text (Err e)
  pub same_provider : s' ≡ s
  pub same_readings : readings' ≡ readings
  pub same_slots : slots' ≡ slots

abbrev pub TableRuns : {S X : Type 0} → Algebra X → (S → Meaning X) → List ℕ → S → List ℕ → List ℕ → Result Played TableRunFault → Protocol → S → List ℕ → List ℕ → Type 0
TableRuns f m text s readings slots (Ok played) p' s' readings' slots' = RunOfText f m text s readings slots (Ok played) p' s' readings' slots'
TableRuns f m text s readings slots (Err (Run e)) p' s' readings' slots' = RunOfText f m text s readings slots (Err e) p' s' readings' slots'
TableRuns f m text s readings slots (Err (Text e)) p' s' readings' slots' = RefusedText text s readings slots e p' s' readings' slots'
