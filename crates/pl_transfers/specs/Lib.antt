pub mod Files
pub mod Capacities
pub mod Waits
pub mod ReadInto
pub mod Readable
pub mod Again
