-- A call that is tried again keeps its number.
pub mod Machine
-- How many steps each caller made.
pub mod Tallying
-- Callers and their numbers.
pub mod Numbers
-- The numbers of a journal's entries, counted entry by entry.
pub mod Counting
-- A journal, replayed entry by entry.
pub mod Replaying
-- What a caller made, in order among the entries of a history.
pub mod Subs
-- Where the callers made as many entries as the journal has, each made just those that the journal has of it.
pub mod Totals
-- What a caller is told of the steps that it made.
pub mod Calls
-- Where no caller waits, nobody is woken.
pub mod Quiet
-- Once the first is woken that is to be, nobody sleeps in vain.
pub mod Serving
-- What is left of a journal behind the entries that were handed out.
pub mod Rests
-- Reads of one description that wait can get on together.
pub mod Alike
-- Who sleeps together with others, and what becomes of them in a step.
pub mod Sleeping
