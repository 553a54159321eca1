pub mod ExpressionLaws
pub mod ExpressionKindLaws
pub mod NameLaws
