pub mod CommandLaws
pub mod KindLaws
pub mod AssignLaws
pub mod TestLaws
pub mod LoopLaws
pub mod ConditionalLaws
pub mod BlockLaws
pub mod CallLaws
