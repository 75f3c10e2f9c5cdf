-- Keys that nothing uses.
pub mod Unused
-- What a node that is opened leaves at the kernel's keys.
pub mod OpenedNode
-- What an open of a name comes to at the kernel's keys.
pub mod Opening
-- What a file that is made leaves at the kernel's keys.
pub mod Creating
-- What a file that is opened again leaves at the kernel's keys.
pub mod Reopening
-- What a FIFO that is made leaves at the kernel's keys.
pub mod Making
-- What a FIFO that is opened leaves at the kernel's keys.
pub mod FifoOpening
-- What an open of a FIFO that waits leaves at the kernel's keys.
pub mod FifoWaiting
-- What taking a name away comes to at the kernel's keys.
pub mod Unlinking
-- What the bytes of the file of a name are at the kernel's keys.
pub mod Telling
