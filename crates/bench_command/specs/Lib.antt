pub mod Answers
pub mod Numbers
pub mod Stations
pub mod Ends
pub mod Plain
pub mod Leaves
pub mod Prints
