pub mod Learning
pub mod Freshening
pub mod Judging
pub mod Sending
