pub mod Prefixes
pub mod Moves
