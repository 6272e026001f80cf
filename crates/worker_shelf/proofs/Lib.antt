pub mod Partings
pub mod Holding
pub mod Naming
pub mod Views
pub mod Newly
