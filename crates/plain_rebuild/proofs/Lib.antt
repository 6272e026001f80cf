pub mod Walking
pub mod Summing
pub mod Completing
pub mod Greatest
pub mod Owners
pub mod Best
