pub mod Play
pub mod PrivatePlay
pub mod Ran
pub mod Ending
pub mod Telling
