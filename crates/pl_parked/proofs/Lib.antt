pub mod Counting
pub mod Finding
pub mod Keeping
pub mod Listed
pub mod Meeting
pub mod Owned
pub mod Rows
pub mod Waiting
