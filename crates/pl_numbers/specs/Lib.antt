pub mod Answers
pub mod Errors
pub mod Flags
pub mod Places
