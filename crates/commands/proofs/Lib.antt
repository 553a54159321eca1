pub mod command_laws
pub mod declaration_laws
