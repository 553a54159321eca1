pub mod step_laws
pub mod run_laws
