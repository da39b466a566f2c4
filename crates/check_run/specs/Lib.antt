pub mod Words
pub mod Queues
pub mod Merge
pub mod Run
pub mod State
