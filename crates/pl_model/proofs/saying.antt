-- The line that says a step, read again.

-- Words that one blank joins.
pub mod Joined
-- Numbers below a limit, computed.
pub mod Below
-- Numbers in words.
pub mod Numerals
-- What stands before a byte, and what behind it.
pub mod Seams
-- Bytes as digits, and in pieces.
pub mod Hexes
pub mod Pieces
-- Names of files.
pub mod Names
-- Flags by their names.
pub mod Flags
-- What a poll asks.
pub mod Entries
-- Each call.
pub mod Calls
-- The law.
pub mod Law
