pub mod Reading
pub mod Why
