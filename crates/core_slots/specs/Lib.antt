pub mod Loosening
pub mod Publishing
pub mod Trying
pub mod Cells
pub mod Logging
