pub mod Leaving
pub mod Answering
pub mod Given
