pub mod Lines
pub mod View
pub mod Holding
pub mod Composing
pub mod Writing
