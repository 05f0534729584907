pub mod Searching
pub mod Determined
pub mod Naming
pub mod Lines
