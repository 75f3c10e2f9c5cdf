pub mod Parsed
pub mod Named
pub mod Reasons
