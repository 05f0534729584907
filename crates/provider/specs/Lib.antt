pub mod Algebra
pub mod Meaning
pub mod Reopening
pub mod Errors
