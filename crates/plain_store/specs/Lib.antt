pub mod Servable
