pub mod Ready
pub mod Writing
pub mod Reading
pub mod Filed
pub mod Names
