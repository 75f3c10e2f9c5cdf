pub mod Starting
pub mod Staying
