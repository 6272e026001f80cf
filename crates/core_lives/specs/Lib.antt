pub mod Lived
pub mod Life
pub mod Crash
pub mod Happening
pub mod Left
pub mod Along
