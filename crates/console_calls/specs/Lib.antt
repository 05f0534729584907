-- What the calls' contracts cite.
pub mod Calls
pub mod Words
