pub mod Memory
pub mod Example
pub mod PrivateReads
