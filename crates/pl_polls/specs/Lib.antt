pub mod Ends
pub mod Masks
pub mod Waiting
pub mod Counts
pub mod Entries
pub mod Into
