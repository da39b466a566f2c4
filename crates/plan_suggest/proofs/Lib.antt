pub mod SignalPlaces
pub mod Freeing
pub mod FirstFreeing
pub mod AdviceMeaning
pub mod QuestionMeaning
pub mod Freed
pub mod Promises
pub mod SaysAlike
