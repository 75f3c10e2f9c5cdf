-- Lists of entries, and counts, that only contracts see.
pub mod Logs
-- What contracts see of a layer and its callers, and what becomes of a call.
pub mod Views
-- What the journal under the lock keeps.
pub mod Journals
-- Which callers that wait a step helps.
pub mod Waking
