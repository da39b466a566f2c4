pub mod SuggestTurns
pub mod SuggestAsked
