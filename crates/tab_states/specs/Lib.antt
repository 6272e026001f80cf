pub mod Tabs
pub mod Desks
pub mod Hands
