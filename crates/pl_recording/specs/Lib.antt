pub mod Record
pub mod Replay
