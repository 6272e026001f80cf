pub mod NewPasses
pub mod Counting
