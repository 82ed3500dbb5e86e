pub mod Examples
pub mod Lines
pub mod Records
pub mod Splits
pub mod Splitters
