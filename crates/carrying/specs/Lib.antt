pub mod Layout
pub mod States
pub mod Frames
pub mod Answers
