pub mod Owned
pub mod Needed
pub mod Summed
