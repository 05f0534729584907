pub mod Loops
pub mod Writing
pub mod Planning
pub mod Storing
pub mod Sums
