pub mod Frontiers
pub mod Meaning
pub mod Walks
pub mod Sides
