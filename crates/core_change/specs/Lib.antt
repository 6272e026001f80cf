pub mod Changed
pub mod Inside
pub mod Planned
pub mod Tabs
pub mod Turns
pub mod Notes
