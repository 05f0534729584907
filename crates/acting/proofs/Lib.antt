pub mod Lines
pub mod Rests
pub mod Sound
pub mod Parts
pub mod Nodes
