-- What was read and run, put together.
use Rattle.std.proofs.Common.{ℕ, List, length, Ok, Result}
use Rattle.provider.specs.Algebra.{Algebra}
use Rattle.provider.specs.Meaning.{Meaning}
use Rattle.rules.specs.State.{State}
use Rattle.rules.specs.History.{History, Came}
use Rattle.protocol.specs.declared.protocol.Protocol.{Protocol}
use Rattle.protocol.specs.View.{view_of}
use Rattle.runs.specs.declared.fault.Played.{Played}
use Rattle.runs.specs.declared.fault.RunFault.{RunFault}
use Rattle.runs.specs.Whole.{RanOf, RestKeptOf, RunLawOf}
use Rattle.table_text.specs.Law.{TextLaw}
use Rattle.table_text.specs.Tables.{ReadsTable, whole}
use Rattle.table_text.proofs.Standing.{begun_sound}
use Rattle.table_run.specs.TableRuns.{RunOfText}

history_of : (text : List ℕ) (n : ℕ) (st : State) → ReadsTable text (Ok n) st → (past : History) × Came past st
history_of text n st (ds, whole ls es mid short begun, e) = let s = begun_sound text ls (length text) es mid begun in (s.past, s.came)

pub run_of_text : {S X : Type 0} (f : Algebra X) (m : S → Meaning X) (text : List ℕ) (s : S) (readings slots : List ℕ) (r : Result Played RunFault) (p : Protocol) (s' : S) (readings' slots' : List ℕ) (n : ℕ)
    → ReadsTable text (Ok n) (view_of p) → TextLaw text (Ok n) → RanOf f m p s readings slots r s' readings' slots' → RestKeptOf m p s readings slots s' readings' slots'
    → RunLawOf f m p readings slots r s' readings' slots' → RunOfText f m text s readings slots r p s' readings' slots'
run_of_text f m text s readings slots r p s' readings' slots' n read law ran kept runs =
    let h = history_of text n (view_of p) read in
    record { steps = n; read = read; refusals = law; past = h.0; came = h.1; ran = ran; kept = kept; runs = runs }
