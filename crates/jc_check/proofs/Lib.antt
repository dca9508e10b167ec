mod Pieces
mod Claims
mod Listings
mod Marking
mod Standing
mod Handlers
mod Unchanged
mod Branches
mod Walking
mod Sound
mod Complete
mod NoClasses
mod Shaped
mod Typed
mod Verdicts
mod Rows
mod Least
pub mod Names
pub mod Knowing
