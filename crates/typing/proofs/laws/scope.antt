pub mod MeaningLaws
pub mod RowLaws
