pub mod Inputs
pub mod Long
pub mod Traces
