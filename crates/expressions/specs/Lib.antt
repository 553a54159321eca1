pub mod Named
pub mod Operated
