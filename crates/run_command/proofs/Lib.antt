pub mod Filed
pub mod Unread
pub mod Unfound
pub mod SizeFound
pub mod Refused
pub mod Printed
pub mod Recorded
