pub mod Bags
pub mod Counts
pub mod RingChanges
pub mod Rings
pub mod Sends
