pub mod DeclarationLaws
pub mod RefLaws
