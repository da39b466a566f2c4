pub mod Told
pub mod Rows
pub mod Lending
pub mod Frontiers
pub mod Refusals
pub mod FrontierCalls
