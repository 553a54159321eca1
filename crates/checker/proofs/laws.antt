-- What the proofs of the functions cite, by subject.
pub mod commands
pub mod declarations
pub mod RootLaws
