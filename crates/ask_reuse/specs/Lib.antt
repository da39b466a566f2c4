pub mod Reuse
pub mod ReusePass
