pub mod Geometries
