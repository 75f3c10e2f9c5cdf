pub mod Merging
pub mod Placing
mod Planning
pub mod Counting
pub mod Underway
pub mod Apart
pub mod First
pub mod Dropping
pub mod Leaving
