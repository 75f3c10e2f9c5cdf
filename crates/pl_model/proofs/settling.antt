-- What the end of a step leaves.

-- Members of lists, and which of them pass a test.
pub mod Members
-- The end of a step leaves nothing more to settle.
pub mod Idempotent
-- What settling comes to, where it is known who is live.
pub mod WhoIsLive
-- What settling makes of a settled state in which the bytes of one pipe may have changed, and one description of it may
pub mod FromSettled
-- What the end of a step makes of each change that a call makes to a settled state.
pub mod Changes
-- Names that stand once each.
pub mod Names
-- What the end of a step makes of a description that comes to be on a node.
pub mod Opening
-- What the end of a step makes of what calls do to files and their names.
pub mod Files
-- What the end of a step makes of what calls do to FIFOs.
pub mod Fifos
-- What the end of a step makes of a call that is parked, or tried again in vain.
pub mod Parking
-- What leaves in turn is settled as if it left at once.
pub mod InTurn
-- Descriptors that are closed, calls that are dropped and processes that end one after another are settled as if they went
pub mod AtOnce
-- What the end of a step makes of opens of FIFOs that meet those that wait, and of those that wait.
pub mod Meeting
-- The invariant of the machine's states, and what of it stands at the start.
pub mod Sound
