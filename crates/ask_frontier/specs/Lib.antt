pub mod Sent
pub mod SentMeaning
pub mod SentWalk
