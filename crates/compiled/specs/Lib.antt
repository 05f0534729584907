pub mod Histories
pub mod Compiled
