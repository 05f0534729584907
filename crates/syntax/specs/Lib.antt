pub mod Grammar
pub mod Levels
pub mod Machine
pub mod States
pub mod Uses
pub mod Words
pub mod Check
