pub mod Telling
pub mod Making
