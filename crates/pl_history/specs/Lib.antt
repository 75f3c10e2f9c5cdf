-- What contracts see of an eye.
pub mod Sights
-- The rule of the history word.
pub mod Words
