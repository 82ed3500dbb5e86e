pub mod Opened
pub mod Replayed
pub mod Rounds
pub mod Worked
