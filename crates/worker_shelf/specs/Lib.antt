pub mod Shelves
pub mod Typed
pub mod Playing
pub mod Taking
