pub mod Capacities
pub mod Decided
pub mod Moves
pub mod Names
pub mod Offsets
