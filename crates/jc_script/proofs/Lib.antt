mod Budgets
mod Cuts
mod Spelling
mod Joining
mod Feeds
mod Lines
mod Parts
mod Skips
mod Faulting
pub mod Hexadecimals
mod DigitPairs
