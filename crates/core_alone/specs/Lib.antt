pub mod Alone
pub mod Touched
pub mod Versions
