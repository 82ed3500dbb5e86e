pub mod Filled
pub mod Heard
pub mod Numbers
pub mod Places
pub mod Readings
pub mod Rules
