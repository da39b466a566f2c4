pub mod Runs
pub mod Greedy
pub mod Steps
pub mod Closure
pub mod Extensions
pub mod Columns
pub mod Turns
pub mod Same
