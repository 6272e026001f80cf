mod Keys
mod Openings
mod Ordered
mod Acting
mod Along
