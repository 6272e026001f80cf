pub mod Seeking
mod OneCell
mod LoggedFor
mod Leaving
pub mod Living
pub mod Leading
pub mod Bytes
pub mod Known
