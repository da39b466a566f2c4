pub mod Zeroed
pub mod Results
pub mod Columns
pub mod Untouched
pub mod Orders
pub mod Inside
pub mod AnyColumns
pub mod Kept
