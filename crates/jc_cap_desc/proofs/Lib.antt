pub mod Counting
pub mod Few
pub mod Passing
pub mod Indexing
pub mod Matching
pub mod Ahead
pub mod Testing
pub mod Installing
mod FreshNumbers
pub mod Joined
pub mod Typing
mod Lists
mod Tested
mod Reading
mod Differing
mod Rowed
mod Headed
mod Bodied
mod Whole
