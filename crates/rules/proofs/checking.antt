-- The checker passes exactly what the typing rules derive.
pub mod CheckerSound
pub mod CheckerComplete
pub mod CheckerExact
pub mod ImageExact
pub mod RootCodes
