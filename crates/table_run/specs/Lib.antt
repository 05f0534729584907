pub mod TableRuns
