pub mod Shorts
pub mod Values
pub mod Laws
