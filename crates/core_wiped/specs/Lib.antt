pub mod Wipes
