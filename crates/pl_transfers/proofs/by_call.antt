-- What a try of a call comes to at the kernel's keys.
pub mod Trying
-- A description changes, and is on what it was on; its file may have other bytes.
pub mod Redescribing
-- What a read and a write of a file come to at the kernel's keys.
pub mod Filing
-- What a read comes to at the kernel's keys.
pub mod Reading
-- What a read gives is no more than was asked, and no more than is held.
pub mod Giving
-- What a write comes to at the kernel's keys.
pub mod Writing
-- What a resume or an interrupt comes to at the kernel's keys.
pub mod Resuming
-- What an open that waits comes to as it is tried again, at the kernel's keys.
pub mod OpensAgain
-- What a seek comes to at the kernel's keys.
pub mod Seeking
-- What the capacity of a pipe is, and is set to, at the kernel's keys.
pub mod Sizing
-- In how many slots a pipe's bytes stand, whatever keys the machine has for it.
pub mod Slots
-- A call that waits at its first try is refused, or parked.
pub mod Refusing
-- A parked call is tried again and waits on, at the kernel's keys.
pub mod Again
-- How many bytes a read gives, at the kernel's keys.
pub mod Measuring
-- Whether a call that waits can get on.
pub mod Progress
-- A write that waits has bytes left.
pub mod BytesLeft
-- A parked read that gives bytes is tried again, and ends.
pub mod GivesAgain
