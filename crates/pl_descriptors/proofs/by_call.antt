-- What a fork comes to at the kernel's keys.
pub mod Forking
-- What calls on the flags of a description come to at the kernel's keys.
pub mod Flagging
-- What dup, dup2 and fcntl's F_DUPFD come to at the kernel's keys.
pub mod Duplicating
-- What dup2 comes to where its target is open.
pub mod Replacing
