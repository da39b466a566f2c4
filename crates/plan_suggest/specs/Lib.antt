pub mod Numbers
pub mod Suggest
pub mod Meaning
pub mod Promise
