pub mod Content
pub mod Standing
pub mod Filling
pub mod Labels
