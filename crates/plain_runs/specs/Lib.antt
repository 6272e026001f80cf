pub mod Ends
pub mod Runs
pub mod Words
pub mod Shows
pub mod Alone
pub mod PrivateRuns
pub mod Elsewhere
