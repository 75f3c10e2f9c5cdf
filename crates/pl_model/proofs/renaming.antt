-- A step under other keys, and what stands for what.

-- A step under other names is the step, under other names: the machine only compares names.
pub mod Renames
-- What is kept under keys goes on standing for the state, whichever unused keys a step takes.
pub mod Simulates
