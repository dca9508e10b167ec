pub mod Safety
pub mod Starting
pub mod Zeroing
pub mod Loading
pub mod LoadingExamples
pub mod PrivateLaws
