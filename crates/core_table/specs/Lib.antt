pub mod Machine
pub mod Inside
pub mod New
pub mod Kept
