pub mod Digits
pub mod Fields
pub mod Cursors
pub mod Writers
pub mod Counts
pub mod Plans
pub mod Spelled
pub mod WritingEnds
