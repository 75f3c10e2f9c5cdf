pub mod Openings
pub mod Waits
