pub mod ModelLaws
pub mod TopLaws
pub mod MarkTopLaws
pub mod NodeLaws
pub mod ItemLaws
pub mod JudgeLaws
