pub mod Setting
pub mod Summaries
pub mod Plain
