pub mod Faults
pub mod Scripts
pub mod Device
pub mod Crews
pub mod Runs
pub mod Asked
pub mod Leaving
pub mod Offered
