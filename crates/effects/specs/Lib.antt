pub mod Effects
pub mod Sending
