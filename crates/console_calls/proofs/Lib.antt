-- Lemmas that several proofs share.
pub mod Digits
pub mod Splitting
