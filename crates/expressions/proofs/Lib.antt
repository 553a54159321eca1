pub mod expression_laws
pub mod operator_laws
