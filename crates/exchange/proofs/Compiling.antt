-- The law on refusals for the answer of a text.
use Rattle.std.proofs.Common.{List, ℕ, length, Ok, Err, Result}
use Rattle.rules.specs.State.{State}
use Rattle.table_text.specs.declared.fault.TextFault.{TextFault}
use Rattle.table_text.specs.Calls.{Known}
use Rattle.table_text.specs.Law.{TextLaw}
use Rattle.table_text.specs.Tables.{Reads}
use Rattle.table_text.proofs.Law.{law_granted, law_refused}
use Rattle.exchange.specs.Printed.{counted}

pub law_of : (text : List ℕ) (r : Result (Unit {0}) TextFault) (ds : Known) (st : State) → Reads text r ds st → TextLaw text (counted r st)
law_of text (Ok x) ds st h = law_granted text (length st.steps) ds st h
law_of text (Err f) ds st h = law_refused text f ds st h
