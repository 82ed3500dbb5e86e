pub mod Performs
pub mod Promise
pub mod Runs
