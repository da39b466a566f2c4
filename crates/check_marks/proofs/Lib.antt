pub mod Turns
pub mod Order
pub mod Asks
pub mod Found
