pub mod Cases
pub mod Handovers
