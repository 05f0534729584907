pub mod Acts
pub mod Carrying
pub mod Loading
pub mod Standing
pub mod Refusals
