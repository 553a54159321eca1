pub mod CallMarkLaws
pub mod CallFrameLaws
pub mod FormalsLaws
pub mod FormalsLoopLaws
