pub mod Walk
pub mod Given
