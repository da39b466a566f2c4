pub mod Columns
pub mod Left
pub mod Told
pub mod Passed
