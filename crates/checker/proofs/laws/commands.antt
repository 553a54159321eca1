pub mod PackingLaws
pub mod KeptLaws
-- Commands by their kinds, with Assign, Call, Cond and blocks.
pub mod AssignLaws
pub mod ActualLaws
pub mod AgreementLaws
pub mod CallLaws
pub mod CommandLaws
pub mod ConditionalLaws
pub mod BlockLaws
