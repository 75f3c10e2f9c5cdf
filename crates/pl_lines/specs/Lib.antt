pub mod Parsed
pub mod Pushed
pub mod Runs
pub mod Blanks
pub mod Explained
pub mod ExplainLaw
