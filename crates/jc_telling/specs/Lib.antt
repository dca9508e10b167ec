pub mod Thrown
pub mod Explanation
