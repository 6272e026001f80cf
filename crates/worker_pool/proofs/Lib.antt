pub mod Answering
mod Backwards
pub mod Going
pub mod Stopping
pub mod Places
pub mod Scripts
pub mod Setting
pub mod Finishing
pub mod Hiring
pub mod Leaving
