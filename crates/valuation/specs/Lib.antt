pub mod Value
pub mod Fit
pub mod Law
