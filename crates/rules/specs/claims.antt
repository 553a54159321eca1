-- What is claimed of the definitions: statements that can be read alone. Their proofs stand in proofs.
pub mod Shape
pub mod Listing
pub mod Typing
pub mod Image
pub mod History
pub mod Claim
pub mod Order
pub mod Division
pub mod Ends
pub mod NoRoutine
pub mod FreeRun
pub mod HighMarks
pub mod Ranges
