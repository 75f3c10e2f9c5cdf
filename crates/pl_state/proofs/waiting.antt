-- Calls that wait.

-- The calls that wait, as the machine has them, through each change.
pub mod Calls
-- The parked calls of a sound kernel are in order.
pub mod InOrder
-- A call is parked, at the kernel's keys.
pub mod ParkedCalls
-- A parked call ends, at the kernel's keys.
pub mod Ending
-- The opens that another open meets are those that it meets in the machine.
pub mod Marking
-- A kernel in which opens met is sound.
pub mod Met
