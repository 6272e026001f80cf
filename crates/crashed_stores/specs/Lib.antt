pub mod Left
pub mod Within
pub mod Finished
pub mod Standing
pub mod Gone
