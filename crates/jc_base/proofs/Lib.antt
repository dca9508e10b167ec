pub mod Binding
pub mod Copied
pub mod Pieces
pub mod Put
pub mod Steps
pub mod Once
pub mod Decide
pub mod Repeats
pub mod Fixed
pub mod PlacedLemmas
mod StackLemmas
pub mod StackViews
mod Pairs
mod Bits
