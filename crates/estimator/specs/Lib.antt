pub mod Figures
pub mod Entries
pub mod Answers
