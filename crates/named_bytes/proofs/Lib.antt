pub mod Images
pub mod Named
mod Sane
pub mod Rebuilds
