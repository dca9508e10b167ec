pub mod Tables
pub mod Decoding
pub mod Objects
pub mod Instructions
pub mod PrivateLengths
pub mod Targets
pub mod Listing
