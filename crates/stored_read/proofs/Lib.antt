pub mod ReadRoom
