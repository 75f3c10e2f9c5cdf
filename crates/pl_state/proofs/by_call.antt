-- What each call comes to at the kernel's keys.

-- What a call comes to at the kernel's keys.
pub mod Begun
-- The bytes of a pipe change.
pub mod Moving
-- What making a pipe comes to at the kernel's keys.
pub mod Piping
-- What a start comes to at the kernel's keys, and a new kernel.
pub mod Starting
-- What a close comes to at the kernel's keys.
pub mod Closing
-- What an exit comes to at the kernel's keys.
pub mod Exiting
-- What a call that is tried again comes to at the kernel's keys.
pub mod Resumed
