pub mod Fitting
pub mod Room
pub mod Conditions
