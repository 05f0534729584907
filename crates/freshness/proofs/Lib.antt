pub mod Standing
pub mod Passing
pub mod Naming
pub mod Using
