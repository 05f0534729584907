pub mod Limits
pub mod Kinds
pub mod Opening
pub mod Parts
pub mod Granted
pub mod Sames
pub mod Law
pub mod Example
