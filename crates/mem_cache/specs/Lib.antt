pub mod Cell
pub mod Closing
pub mod Opening
pub mod Pages
