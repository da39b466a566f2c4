pub mod Walk
pub mod Raising
pub mod Answer
