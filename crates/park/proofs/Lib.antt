pub mod Pages
pub mod Parts
pub mod Phases
pub mod Received
pub mod Records
