mod Reading
mod Walking
mod Mapping
pub mod Adding
