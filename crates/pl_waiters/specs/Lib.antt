pub mod MarkLists
pub mod Marks
pub mod Places
pub mod Queue
pub mod Queues
pub mod Seen
