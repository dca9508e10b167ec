pub mod Verdict
pub mod Own
pub mod Examples
