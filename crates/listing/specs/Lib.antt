pub mod Refusals
pub mod Text
pub mod Listing
pub mod Decimal
pub mod Apart
