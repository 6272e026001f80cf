pub mod AtDesks
pub mod TakingPages
