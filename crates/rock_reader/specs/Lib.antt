pub mod Bodies
pub mod Closing
pub mod Opening
pub mod Reading
pub mod Responses
pub mod Wanted
