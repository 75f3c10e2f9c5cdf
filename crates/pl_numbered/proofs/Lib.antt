pub mod Changing
pub mod EntryLemmas
pub mod FromNumber
pub mod Having
pub mod Places
pub mod Replacing
pub mod Rising
pub mod Searched
