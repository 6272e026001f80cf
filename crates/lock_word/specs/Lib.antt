pub mod Words
pub mod Order
pub mod Life
pub mod Cause
