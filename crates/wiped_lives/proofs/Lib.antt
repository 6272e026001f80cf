pub mod Along
pub mod OneCell
pub mod Gone
