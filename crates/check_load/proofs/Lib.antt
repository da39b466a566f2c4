pub mod Blind
pub mod Blocks
pub mod Windows
pub mod Keeping
pub mod Leaving
pub mod Loading
pub mod Outcomes
