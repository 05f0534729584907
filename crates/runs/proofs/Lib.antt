pub mod Bases
pub mod Rests
pub mod Standing
pub mod Doing
pub mod Fitting
pub mod Counting
pub mod Right
pub mod Keeping
