-- What each call comes to at the kernel's keys.

-- What a poll looks at of a description.
pub mod Looking
-- The mask of an entry, and those of the entries behind it.
pub mod Entries
-- What the entries of a poll name.
pub mod Naming
-- What a poll comes to as it begins.
pub mod Begins
-- What a poll that is tried again comes to.
pub mod Retrying
-- How many masks a parked call answers.
pub mod Counting
