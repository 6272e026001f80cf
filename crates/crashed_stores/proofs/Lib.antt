pub mod Over
pub mod Within
pub mod Closed
pub mod Durable
pub mod Kept
pub mod Finished
pub mod Standing
pub mod Gone
