pub mod Courses
pub mod Knowing
pub mod Running
pub mod Crews
