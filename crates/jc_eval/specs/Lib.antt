pub mod PrivateRuns
pub mod Alone
pub mod TypedCode
pub mod Examples
