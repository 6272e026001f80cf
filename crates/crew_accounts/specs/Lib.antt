pub mod Runs
pub mod Tracks
pub mod Lines
pub mod Courses
pub mod Playing
pub mod Closings
pub mod Openings
pub mod Saved
