-- The bytes that go through a pipe.

-- For each pipe: what it held, and what came in, is what went out, and what it holds.
pub mod StreamLaw
-- For each pipe, over a run: what it held, and what came in, is what went out, and what it holds.
pub mod StreamRuns
-- Maps as lists of entries, each key once.
pub mod Maps
-- Pieces under tags, and the pieces of a run.
pub mod Pieces
-- What one try of a write adds to its pipe.
pub mod Writes
-- What one step does to the parked calls, and whose bytes it moves.
pub mod Does
-- What holds of a parked call at its end holds over each run: from one step to the whole.
pub mod Courses
-- A parked call over a run: what holds of it at its end holds of all its bytes.
pub mod CallRuns
-- A description stays on its node, while its number isn't given anew.
pub mod Nodes
-- Writes over a run.
pub mod WriteRuns
-- A byte queue stays one.
pub mod ByteQueues
-- Reads over a run.
pub mod ReadRuns
-- Splices and tees over a run.
pub mod MoveRuns
-- A call that begins in a run.
pub mod BegunRuns
-- A splice or a tee that begins in a run, and each try of one.
pub mod MoveBegins
-- A splice or a tee adds the bytes that its source holds at the moment.
pub mod MoveMoments
-- Polls over a run: they move no byte.
pub mod PollRuns
-- The parked calls are in order at the start, and under other keys.
pub mod Orders
-- The stream law of whole runs.
pub mod WholeStream
-- A parked call that met its other end has met it for good.
pub mod StayingMet
