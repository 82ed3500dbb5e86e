pub mod Outlines
pub mod Pages
pub mod Rules
pub mod Statements
