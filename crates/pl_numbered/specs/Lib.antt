pub mod Entries
pub mod Numbered
pub mod Rising
