pub mod Values
pub mod State
pub mod Outcome
pub mod Makings
pub mod Records
pub mod Laws
pub mod Issued
