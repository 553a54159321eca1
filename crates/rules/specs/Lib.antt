-- The rules of the engine: what the paper says, and what is claimed of it.
pub mod paper
pub mod claims
pub mod Answers
