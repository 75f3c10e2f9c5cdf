-- Packets of pipes.

-- The lengths of packets: of a write, and of those that are left.
pub mod Lengths
-- Bytes that are cut into packets.
pub mod Cutting
-- A packet pipe is a list of packets.
pub mod Lists
-- All packet pipes stay cut into packets.
pub mod Staying
