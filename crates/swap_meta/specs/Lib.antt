pub mod Meta
pub mod Seen
