-- What each call comes to at the kernel's keys.
pub mod by_call
-- Entries of a poll, marked one by one.
pub mod Marking
