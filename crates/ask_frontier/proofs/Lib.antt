pub mod SentRows
pub mod SentMeaning
pub mod SentOutcome
pub mod SentQuestion
pub mod SentWalk
pub mod SentCalls
