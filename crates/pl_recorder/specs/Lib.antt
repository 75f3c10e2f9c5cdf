pub mod Kept
pub mod Room
pub mod Unread
