pub mod Asking
pub mod Faults
pub mod Following
pub mod Forwarding
pub mod MemFetcher
pub mod Passes
pub mod Sending
pub mod Writing
