pub mod ByteLaws
pub mod LoopLaws
