-- The proofs of the claims, by subject.
pub mod Basics
pub mod IntegerOrder
pub mod reading
pub mod checking
pub mod running
pub mod needs
pub mod ranges
