pub mod Turns
pub mod Plans
pub mod Sent
pub mod Outcome
