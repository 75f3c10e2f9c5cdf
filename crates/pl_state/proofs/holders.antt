-- Who holds what, and what goes with the last hold.

-- Who holds a description, and that it is live exactly where something does.
pub mod Holding
-- The descriptions that are open on pipes, and the ends that the machine counts.
pub mod Ends
-- That what descriptions are on, and what names stand for, is there, through each change.
pub mod There
-- A kernel that holds the same descriptions as before has the same of them live.
pub mod Staying
pub mod Belonging
-- What calls wait on, where descriptions come, go or change.
pub mod OnNodes
-- What is left of a pipe, from the flags that the kernel read.
pub mod Hung
-- What settling makes of the kernel as a description is live no more.
pub mod Gone
-- A hold of a description is given up, at the kernel's keys.
pub mod GivenUp
-- Holds of several descriptions are given up one after another.
pub mod EachInTurn
-- Several descriptions are held, one after another.
pub mod EachHeld
-- What goes takes no segment from others, and makes none.
pub mod Shrinking
-- Where no process is and no name, nothing is.
pub mod Deserted
