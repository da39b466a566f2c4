pub mod Trace
pub mod State
pub mod Question
pub mod Numbers
pub mod Meaning
pub mod Promise
