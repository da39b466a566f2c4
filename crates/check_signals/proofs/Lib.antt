pub mod Told
pub mod Clearing
pub mod Loops
pub mod Flat
pub mod Owners
pub mod Shows
