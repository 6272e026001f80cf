mod Walking
mod Files
pub mod Facts
mod Greatest
mod Best
pub mod Gathering
