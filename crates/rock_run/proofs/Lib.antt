pub mod Accounts
pub mod Back
pub mod Opened
pub mod Devices
pub mod Outcomes
pub mod Fronts
pub mod Homes
pub mod Asking
mod Found
mod Leaving
