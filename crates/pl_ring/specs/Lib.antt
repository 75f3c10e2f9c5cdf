pub mod Merging
pub mod Parts
pub mod Pushed
pub mod Ring
pub mod RingView
