-- A property through all calls, one lemma a call; refusals.

-- What holds of whatever the checks of a call lead to, and of whatever a try gives: one lemma for each way that these are made.
pub mod Ways
-- What each change that a step is made of keeps, a whole step keeps.
pub mod Keeps
-- A step that is refused leaves a settled state as it was.
pub mod Refusals
-- A call that is tried again waits under its number.
pub mod Waiting
-- A call that can't get on waits on where it is tried, and moves no byte.
pub mod InVain
-- What a poll comes to, as it begins and as it is tried again.
pub mod Polls
-- What the replies of a run say of the state that it leaves.
pub mod AfterReplies
