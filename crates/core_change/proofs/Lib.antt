pub mod Changing
pub mod Facts
pub mod NewParts
pub mod Worded
pub mod Slots
