pub mod DispatchLaws
pub mod StepLaws
pub mod MarkRuleLaws
