pub mod Memory
pub mod Tasks
pub mod Runs
pub mod Law
pub mod Whole
