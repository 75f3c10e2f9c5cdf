pub mod Fronts
pub mod Rows
pub mod Unread
pub mod Told
pub mod Checks
