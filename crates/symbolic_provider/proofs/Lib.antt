pub mod Done
pub mod Making
pub mod Parts
pub mod Records
