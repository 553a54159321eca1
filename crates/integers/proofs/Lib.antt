mod CastLaws
pub mod OrderLaws
pub mod QuotientLaws
