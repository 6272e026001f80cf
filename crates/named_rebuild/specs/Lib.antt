pub mod Contents
pub mod Entries
pub mod Keeping
