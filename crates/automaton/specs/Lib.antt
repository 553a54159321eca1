pub mod Meter
pub mod Runs
pub mod Starts
