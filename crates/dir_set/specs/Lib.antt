pub mod Dirs
pub mod Answers
pub mod Beginning
pub mod Notes
pub mod Files
pub mod Parts
