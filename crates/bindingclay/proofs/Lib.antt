pub mod AsBox
pub mod Moving
pub mod AsTold
pub mod Resuming
pub mod Telling
pub mod OnRecord
pub mod Named
pub mod ReadAgain
