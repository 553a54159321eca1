pub mod NameLaws
pub mod CodeRangeLaws
pub mod ExpressionLaws
