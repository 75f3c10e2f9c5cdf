-- Calls at the kernel's keys.
pub mod by_call
-- States between which only bytes and offsets differ.
pub mod Resembling
