pub mod ReuseAsked
pub mod ReuseVerdict
pub mod ReuseTurns
