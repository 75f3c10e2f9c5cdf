mod Lent
mod Counting
