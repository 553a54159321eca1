pub mod OperatorLaws
