pub mod SuggestPass
