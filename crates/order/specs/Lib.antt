pub mod Runs
pub mod Greedy
pub mod Closure
