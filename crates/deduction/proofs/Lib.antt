pub mod Members
pub mod Derive
pub mod Compose
pub mod Fresh
pub mod Cases
pub mod Decide
