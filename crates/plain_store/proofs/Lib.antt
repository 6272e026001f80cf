pub mod Turning
pub mod Growing
pub mod Leaving
pub mod Bodies
pub mod Passing
pub mod Beginning
pub mod Good
pub mod Searching
