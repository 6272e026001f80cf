pub mod Trails
pub mod Links
pub mod Seeing
pub mod Kept
pub mod Renewed
pub mod Opened
pub mod Ends
