pub mod Judging
pub mod Refused
pub mod Causes
pub mod Recorded
