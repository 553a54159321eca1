pub mod MarkedLaws
pub mod RunLaws
pub mod MeterLaws
pub mod StartLaws
pub mod ResultLaws
