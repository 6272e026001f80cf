pub mod Anchored
pub mod ReaderSteps
pub mod RaiserSteps
pub mod SideSteps
pub mod TakerSteps
