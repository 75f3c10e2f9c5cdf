-- Examples, computed from the definitions.

-- The small examples, each computed from the definitions.
pub mod Examples
-- The pieces of small runs, computed from the definitions.
pub mod PieceExamples
-- The small examples of regular files, computed from the definitions.
pub mod FileExamples
-- The small examples of the capacities of pipes, computed from the definitions.
pub mod CapacityExamples
-- The small examples of FIFOs, computed from the definitions.
pub mod FifoExamples
-- The small examples of splices and tees, computed from the definitions.
pub mod SpliceExamples
-- The small examples of the lines of splices and tees, computed from the definitions.
pub mod SpliceLineExamples
-- The small examples of polls, computed from the definitions.
pub mod PollExamples
-- The small examples of packet pipes, computed from the definitions.
pub mod PacketExamples
-- The small examples of limits, computed from the definitions.
pub mod LimitExamples
-- The small examples of the versions of scripts, computed from the definitions.
pub mod VersionExamples
-- The small examples of calls that can get on, computed from the definitions.
pub mod WakingExamples
-- The small examples of what steps touch, computed from the definitions.
pub mod TouchingExamples
