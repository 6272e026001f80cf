pub mod Geometry
pub mod Layout
