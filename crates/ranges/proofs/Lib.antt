pub mod AssignLaws
pub mod OutcomeLaws
pub mod CommandLaws
pub mod BranchLaws
pub mod TestLaws
pub mod BothLaws
pub mod RegisterLaws
pub mod RootLaws
