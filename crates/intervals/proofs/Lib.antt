mod ChoiceLaws
mod EndLaws
mod OperatorLaws
mod SpanLaws
