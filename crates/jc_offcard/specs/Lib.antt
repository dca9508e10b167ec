pub mod Verify
pub mod PrivateVerify
pub mod Named
pub mod Answer
