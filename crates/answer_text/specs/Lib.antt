pub mod Parts
pub mod Lines
pub mod Ranges
pub mod Fields
pub mod Text
