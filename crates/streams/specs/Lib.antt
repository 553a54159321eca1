pub mod ErrorNumbers
pub mod MovedBytes
pub mod TransferLaws
pub mod Transfers
