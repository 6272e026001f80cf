pub mod Image
pub mod Entry
pub mod Rebuilt
pub mod Plain
pub mod Keeping
