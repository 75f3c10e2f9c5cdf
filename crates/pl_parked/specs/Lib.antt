pub mod Calls
pub mod CallsView
pub mod Meeting
pub mod Owned
pub mod Owners
pub mod Waiting
