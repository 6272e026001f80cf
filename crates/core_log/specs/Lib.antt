pub mod Seen
pub mod Logged
pub mod Keeps
pub mod Within
