pub mod Piles
pub mod Witnesses
