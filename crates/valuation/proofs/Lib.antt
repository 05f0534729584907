pub mod Values
pub mod Slots
pub mod Scripts
pub mod Taking
pub mod Effects
pub mod Terms
pub mod States
