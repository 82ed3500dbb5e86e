pub mod Acts
pub mod Examples
pub mod Permits
pub mod Runs
pub mod Words
