pub mod Steps
pub mod Reopening
