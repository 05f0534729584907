pub mod Lengths
pub mod Writes
pub mod Decimal
pub mod Apart
