pub mod Cell
pub mod Station
pub mod Volume
