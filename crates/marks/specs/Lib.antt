pub mod Views
pub mod Ruled
pub mod Plays
pub mod Seats
