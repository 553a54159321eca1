pub mod FrameLaws
pub mod BindMarkLaws
pub mod DseqMarkLaws
pub mod BlockMarkLaws
