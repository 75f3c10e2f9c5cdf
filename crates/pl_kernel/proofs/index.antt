-- What the places of a call say of it.
pub mod Places
-- Which calls wait in which queues.
pub mod Kinds
-- When a call is open.
pub mod Opening
-- What a step leaves of the calls that wait.
pub mod Leaving
-- What the index knows of the calls that a step leaves.
pub mod Knowing
-- What a kernel's state is known to be.
pub mod Known
-- What is known once a step was made before which its nodes were touched.
pub mod Stepping
-- The node that a descriptor or a name stands for.
pub mod Finding
-- What is touched, one description after another.
pub mod Touching
-- When the calls of a queue can make progress.
pub mod Deciding
-- Calls of one queue are alike.
pub mod Alike
-- What is known of a call that was asked.
pub mod Asked
-- What is known of a node as its queues are asked.
pub mod Nodes
-- What the index knows as a touched node is asked.
pub mod Settling
-- The least of all calls that can make progress, by the least numbers of the nodes.
pub mod First
-- At which places the ends are that a call keeps.
pub mod Placing
-- What the index knows as a call is placed in its queues.
pub mod Looking
-- What asking the queues takes for granted.
pub mod Asking
