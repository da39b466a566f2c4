pub mod Given
pub mod Passes
