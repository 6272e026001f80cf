pub mod Lists
pub mod Framed
pub mod Stepping
pub mod Seating
pub mod Dealing
