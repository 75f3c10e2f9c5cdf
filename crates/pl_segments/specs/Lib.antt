pub mod Segments
pub mod Slices
pub mod Turns
pub mod Slots
pub mod Sharing
pub mod StoreView
pub mod Keys
