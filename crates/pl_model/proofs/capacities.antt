-- How many bytes pipes can hold.

-- To what a size is rounded.
pub mod Rounding
-- The capacities of all pipes stay capacities that a pipe may have.
pub mod Staying
