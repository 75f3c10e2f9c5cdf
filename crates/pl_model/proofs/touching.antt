-- Which nodes a step touches.

-- What is the same at a node in two states.
pub mod SameAt
-- What each change leaves as it was at a node that it isn't at.
pub mod Changing
-- What a try leaves at a node that the call isn't at.
pub mod Trying
-- What a call that begins leaves at a node that it doesn't touch.
pub mod Calls
-- Which calls stay parked.
pub mod Staying
-- What happens at once leaves what it doesn't touch.
pub mod Happening
-- The end of a step leaves what is the same at an open node.
pub mod Ending
-- Whether a call that waits can get on depends on the nodes that it keeps alone.
pub mod Progress
-- A parked call, between two states that are the same where it waits.
pub mod Parked
-- A call that waits at no node that a step touches is left as it was.
pub mod Untouched
-- What a step leaves of the calls that wait, where it moves no byte and changes no end.
pub mod Idle
-- A call that is tried in vain leaves every call as it was.
pub mod InVain
-- A call that begins, waits, and took no byte leaves every call as it was, if it opens no name.
pub mod Begun
-- A call that waits goes on waiting through each step that isn't of it.
pub mod Going
-- What a step leaves of the calls that wait, in the words of the law.
pub mod Law
-- A call that stays parked keeps the same descriptions, and each that stays is on the node that it was on.
pub mod Places
