pub mod Parts
pub mod Readers
pub mod Raising
pub mod Dooming
pub mod Taking
pub mod Testing
pub mod Ordering
mod Bits
