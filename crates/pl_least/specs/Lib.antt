pub mod None
pub mod Numbers
pub mod Tournament
