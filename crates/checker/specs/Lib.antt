pub mod Packing
pub mod Commands
