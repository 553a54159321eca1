mod DecimalLaws
mod InputLaws
mod LineLaws
mod AnswerLaws
mod PutLaws
mod RangeLaws
