pub mod Turns
pub mod Found
