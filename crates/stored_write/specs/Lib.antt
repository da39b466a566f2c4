pub mod Tried
