pub mod Core
pub mod Decoded
pub mod Applied
pub mod Opened
