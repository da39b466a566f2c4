pub mod Turns
pub mod Columns
pub mod Raising
pub mod Refusals
pub mod Asked
