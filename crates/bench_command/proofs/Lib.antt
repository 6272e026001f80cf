pub mod Served
pub mod Printed
pub mod Ran
pub mod Made
pub mod Plain
pub mod Stations
pub mod Refused
pub mod Alone
