pub mod Gone
pub mod Lives
