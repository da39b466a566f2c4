pub mod Judged
pub mod Handovers
