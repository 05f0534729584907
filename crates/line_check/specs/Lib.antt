pub mod Faults
pub mod Check
