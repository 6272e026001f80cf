pub mod Listing
pub mod Summary
pub mod Faults
pub mod Report
pub mod Recording
pub mod Create
pub mod Migrate
