pub mod RegionLaws
pub mod StoreLaws
pub mod EnvironmentLaws
pub mod LookupLaws
