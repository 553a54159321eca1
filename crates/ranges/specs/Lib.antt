pub mod Commands
pub mod Routine
