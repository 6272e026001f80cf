pub mod Url
pub mod Key
pub mod Anchor
