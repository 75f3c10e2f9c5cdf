-- What a move or a copy asks of a pipe, said of one that is there.
pub mod Asking
-- What a try of a splice or a tee comes to.
pub mod Trying
-- What bytes that went over leave.
pub mod Leaving
-- Bytes that went over, by what the sides are on.
pub mod Moving
-- A call is parked that keeps two descriptions.
pub mod Parking
-- What the first try of a splice or a tee comes to.
pub mod Begins
-- What the checks of a splice and of a tee come to.
pub mod Checking
-- What a side has to give, and has room for.
pub mod Sizing
-- What a call that waits comes to when it is tried again.
pub mod Retrying
-- What comes of memory.
pub mod Sharing
