pub mod Purging
pub mod Wiping
