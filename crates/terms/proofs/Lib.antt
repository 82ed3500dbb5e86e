pub mod Every
pub mod Hearing
pub mod Places
pub mod Read
