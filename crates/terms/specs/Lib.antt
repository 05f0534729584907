pub mod Node
pub mod Tree
pub mod Outcome
pub mod Held
pub mod Listed
