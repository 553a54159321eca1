pub mod memory_laws
pub mod state_laws
pub mod stack_laws
