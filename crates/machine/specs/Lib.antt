pub mod Layout
pub mod Regions
pub mod Represents
pub mod Lookup
pub mod Room
pub mod Steps
