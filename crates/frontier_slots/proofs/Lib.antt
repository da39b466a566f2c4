pub mod Slots
pub mod Steps
pub mod Form
pub mod Halved
