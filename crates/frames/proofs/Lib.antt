pub mod frame_laws
pub mod call_laws
