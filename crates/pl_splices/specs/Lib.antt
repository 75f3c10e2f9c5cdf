pub mod Resembling
pub mod Sides
pub mod Moves
pub mod Shares
pub mod Waits
