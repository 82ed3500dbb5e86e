pub mod Reports
pub mod Scripts
pub mod Sessions
