-- Formals, what a Bind's child means, and declarations.
pub mod FormalLaws
pub mod BoundLaws
pub mod DeclarationLaws
