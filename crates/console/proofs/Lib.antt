-- Lemmas that several proofs share.
pub mod Lending
pub mod Showing
