-- Texts of one line.
pub mod OneLine
-- A record as it is run.
pub mod Rerun
-- Journals.
mod OfJournals
-- A text that is whole, or as it was.
mod Whole
