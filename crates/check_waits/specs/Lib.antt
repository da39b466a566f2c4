pub mod Groups
pub mod Waits
