pub mod Longer
pub mod LongerRuns
pub mod LongerSound
pub mod LongerPasses
