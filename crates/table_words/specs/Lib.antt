-- What the contracts of this crate cite.
pub mod Notation
pub mod Place
pub mod Refused
