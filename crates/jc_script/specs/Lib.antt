pub mod Script
pub mod Shown
pub mod Faults
pub mod Whole
pub mod Reading
pub mod PrivateWords
pub mod PrivateReading
pub mod PrivateDigits
