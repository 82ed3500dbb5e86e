pub mod Crossings
