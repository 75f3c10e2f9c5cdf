-- Who holds what, and what goes with the last hold.
pub mod holders
-- Calls that wait.
pub mod waiting
-- What is known of a kernel as a call of it begins.
pub mod Known
-- What each call comes to at the kernel's keys.
pub mod by_call
