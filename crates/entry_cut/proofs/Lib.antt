pub mod Images
pub mod Filled
pub mod Entries
