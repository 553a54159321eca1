pub mod Adding
pub mod Cases
pub mod Program
pub mod RegistersShown
pub mod Sizes
pub mod Whole
pub mod Writing
