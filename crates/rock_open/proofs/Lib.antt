pub mod Cells
pub mod Counting
pub mod Files
pub mod Refusals
