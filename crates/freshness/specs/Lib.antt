pub mod Marks
pub mod Given
pub mod Occurring
pub mod Fresh
