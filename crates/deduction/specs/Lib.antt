pub mod Term
pub mod Decide
pub mod Derive
pub mod Compose
pub mod Cases
pub mod Theorems
