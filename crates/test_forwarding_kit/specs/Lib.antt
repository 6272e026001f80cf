pub mod Shared
pub mod Standing
