pub mod MarkLists
pub mod InOrder
pub mod Firsts
pub mod Places
