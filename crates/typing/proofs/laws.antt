-- What the proofs of the functions cite, by subject.
pub mod codes
pub mod scope
pub mod expressions
