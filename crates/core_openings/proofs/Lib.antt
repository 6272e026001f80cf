mod Rebuilds
pub mod Slots
pub mod Cells
pub mod Sounding
pub mod Settings
mod Columns
pub mod Winners
pub mod Opened
