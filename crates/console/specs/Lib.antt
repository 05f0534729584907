-- What the console's contracts cite.
pub mod Sessions
pub mod Steps
pub mod Workspaces
